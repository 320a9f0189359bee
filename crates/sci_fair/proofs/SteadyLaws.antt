-- The laws of steady turns, as they are told.
use Rattle.std.proofs.Common.{◌≡◌, ◌≢◌, ◌<◌, ℕ, Bool, true, false, arith, List}
use Rattle.std.proofs.Common.{refl, sym, subst}
use Rattle.std.specs.Prelude.{IsSome}
use Rattle.sci_history.specs.Seen.{IsAmong}
use Rattle.sci_packets.specs.{declared.body.Body.{TheVariants.{Purge}}}
use Rattle.sci_cache.specs.{State.{waits}, Cache.{Letter}}
use Rattle.sci_core.specs.declared.lane.LaneKind.TheVariants.{Requests}
use Rattle.sci_core.specs.{Core.{lane_of, node_at}, Sharing.{answer_to}, Size.{Size}}
use Rattle.sci_policy.specs.Lines.{state_on}
use Rattle.sci_fair.specs.Steady.{AreSteadyTurns, HasTurn, HasWindows, IsSteadyTurn, Working, WorksByTurns}
use Rattle.sci_fair.proofs.{LaneTurns.{among_stands}}
use Rattle.sci_fair.proofs.Steadied.{IsSame}
use Rattle.sci_fair.proofs.{AnswersCome.{AnswerTurn, answer_within, taken_answered}, Requests.{LetterTaken, request_taken, size_along, stands_in}}
use Rattle.sci_fair.specs.Retries.{is_tried_once}
use Rattle.sci_fair.proofs.Retries.{never_once, never_purge}
use Rattle.sci_fair.proofs.{TurnLaws.{answered_to, not_there, turn_of}, Whereabouts.{request_about}}

pub letter_taken_law : (j n : ℕ) (letter : Letter) (order : List ℕ) (first last : Working) → WorksByTurns first.core → j < first.core.size.nodes
    → n < first.core.size.nodes → IsAmong letter (lane_of first.core Requests j n) → AreSteadyTurns order first last
    → HasWindows first.core.size.nodes 280 order
    → HasTurn n (λ old new. IsAmong letter (lane_of old.core Requests j n) × (IsAmong letter (lane_of new.core Requests j n) → ⊥)) order first last
letter_taken_law j n letter order first last good f t among turns windows =
    let nodes = first.core.size.nodes in
    let is = request_about first.core j n letter good.reached f t among in
    let stood = stands_in first.core j n letter good.between among in
    let c = request_taken 3 3 nodes j n 0 letter order first last (omega arith) good refl f t stood turns windows in
    let size = size_along c.before first c.old good c.leads in
    let f0 : j < c.old.core.size.nodes = subst (λ (z : Size). j < z.nodes) (sym size) f in
    let t0 : n < c.old.core.size.nodes = subst (λ (z : Size). n < z.nodes) (sym size) t in
    let l0 : letter.line < c.old.core.size.lines = subst (λ (z : Size). letter.line < z.lines) (sym size) is.1 in
    let held = c.done.held in
    let answered = taken_answered IsSame c.node j n letter.line c.old c.new letter c.done f0 t0 l0 is.2 in
    let there = among_stands letter (lane_of c.old.core Requests j n) c.done.stood.at.before c.done.stood.after c.done.stood.at.lane in
    let then_ = not_there c.new.core j n letter.line letter held.good (subst (λ (z : Size). j < z.nodes) (sym held.size) f0)
    (subst (λ (z : Size). n < z.nodes) (sym held.size) t0) (subst (λ (z : Size). letter.line < z.lines) (sym held.size) l0) is.0 is.2 answered in
    turn_of IsSteadyTurn n (λ old new. IsAmong letter (lane_of old.core Requests j n) × (IsAmong letter (lane_of new.core Requests j n) → ⊥))
    (LetterTaken j n letter) nodes 0
    order first last c c.done.server (there, then_)

pub answer_law : (n line : ℕ) (order : List ℕ) (first last : Working) → WorksByTurns first.core → n < first.core.size.nodes → line < first.core.size.lines
    → waits (state_on (node_at first.core n) line) ≡ true → AreSteadyTurns order first last → HasWindows first.core.size.nodes 281 order
    → HasTurn n (λ old new. IsSome (answer_to old.core n line)) order first last
answer_law n line order first last good some inside waiting turns windows =
    let nodes = first.core.size.nodes in
    let c = answer_within n line 0 order first last good some inside waiting turns windows in
    let size = size_along c.before first c.old good c.leads in
    let n0 : n < c.old.core.size.nodes = subst (λ (z : Size). n < z.nodes) (sym size) some in
    let l0 : line < c.old.core.size.lines = subst (λ (z : Size). line < z.lines) (sym size) inside in
    let answered = c.done.answered in
    let is = answered_to c.old.core n line c.done.good.reached n0 l0 answered in
    turn_of IsSteadyTurn n (λ old new. IsSome (answer_to old.core n line)) (AnswerTurn n line) nodes 0 order first last c c.done.server (subst IsSome
    (sym is) refl)

none_of : (b : Bool) → (b ≡ true → ⊥) → b ≡ false
none_of true never = absurd (never refl)
none_of false never = refl

pub once_law : (n line : ℕ) (order : List ℕ) (first last : Working) → WorksByTurns first.core → n < first.core.size.nodes → line < first.core.size.lines
    → AreSteadyTurns order first last → HasWindows first.core.size.nodes 281 order → is_tried_once (state_on (node_at first.core n) line) ≡ false
once_law n line order first last good some inside turns windows =
    none_of (is_tried_once (state_on (node_at first.core n) line)) (λ is. never_once n line order first last good some inside turns windows is)

pub no_purge_law : (j n : ℕ) (letter : Letter) (order : List ℕ) (first last : Working) → WorksByTurns first.core → j < first.core.size.nodes
    → n < first.core.size.nodes → IsAmong letter (lane_of first.core Requests j n) → AreSteadyTurns order first last
    → HasWindows first.core.size.nodes 280 order → letter.body ≢ Purge
no_purge_law j n letter order first last good f t among turns windows = λ purge.
    let is = request_about first.core j n letter good.reached f t among in
    never_purge j n letter order first last good f t is.1 is.0 is.2 purge among turns windows
