-- Each request is answered, whatever is issued and performed between turns.
use Rattle.std.proofs.Common.{◌≡◌, ◌≤◌, ◌<◌, ◌+◌, ◌-◌, ◌%◌, ◌*◌, ℕ, true, arith, List, refl, sym, subst, ◌∙◌, inl, inr}
use Rattle.std.specs.Prelude.{IsSome}
use Rattle.sci_history.specs.Seen.{IsAmong}
use Rattle.sci_cache.specs.{State.{waits}, Cache.{Letter}}
use Rattle.sci_core.specs.declared.lane.LaneKind.TheVariants.{Requests, Answers}
use Rattle.sci_core.specs.{Core.{lane_of, node_at}, Sharing.{answer_to}, Size.{Size}}
use Rattle.sci_policy.specs.Lines.{state_on}
use Rattle.sci_fair.specs.{Later.{IsTurnAmong}, Steady.{AreTurns, HasTurnBy, HasWindows, Working, WorksByTurns}}
use Rattle.sci_fair.proofs.{AnswersCome.{TakenIn, answer_by, size_goes, taken_answered}, Descents.{ComesBy}}
use Rattle.sci_fair.proofs.{Going.{Whatever, works_on}, HomeAnswers.{AnsweredAt}, LaneTurns.{among_stands}, Leaders.{owns, owns_works}}
use Rattle.sci_fair.proofs.Passing.{Counts, Passing, among, passes_on, passing_below, passing_good}
use Rattle.sci_fair.proofs.{Requests.{Parts, Stands_on, letter_comes, stands_in}, Standing.{FrontTaken, StandsAt}, TurnLaws.{answered_to, not_there, turn_of}}
use Rattle.sci_fair.proofs.{Vain.{first_need}, Whereabouts.{request_about}}

abbrev among_parts : (i : ℕ) (old new : Working) → WorksByTurns old.core → IsTurnAmong i old new → Parts Whatever i old new
among_parts i old new good turn =
    let a = among i old new good turn in
    record {
      begun = a.begins;
      good = a.good;
      size = a.size;
      lanes = (works_on owns owns_works a.works old.core a.begins.core good a.worked).lanes;
      some = a.alone.some;
      held = a.held;
    }

passes_first : (size : Size) (n j : ℕ) (front : Letter) (w : Working) → StandsAt size n j front w
    → (k : ℕ) × (h : ℕ) × (k ≤ 140) × Passing size n j front k h w
passes_first size n j front w at =
    let t = (w.policies n).turns in
    let need = 63 - t % 64 in
    (need + 77, n, omega arith, Counts at refl need (first_need t) refl)

-- each request is taken within 141 windows for each packet up to it
each_taken : (n to extra : ℕ) (letter : Letter) (order : List ℕ) (first last : Working) → WorksByTurns first.core → n < first.core.size.nodes
    → to < first.core.size.nodes → Stands_on first.core n to letter 3 → AreTurns IsTurnAmong order first last
    → HasWindows first.core.size.nodes (4 * 141 + extra) order
    → ComesBy IsTurnAmong (TakenIn Whatever IsTurnAmong among_parts n to letter) first.core.size.nodes extra order first last
each_taken n to extra letter order first last good some t stood turns windows =
    letter_comes Whatever IsTurnAmong among_parts Passing 140 passing_good passing_below passes_first
    (λ z a b sa sb front l h i old new good_ turn measure. elim (passes_on z a b sa sb front l h i old new (among i old new good_ turn) good_ measure) [
      | inl took ↦ inl (
        took.0,
        subst (λ (m : ℕ). FrontTaken Whatever a b front m (among i old new good_ turn).begins new) (sym took.0) took.1,
      )
      | inr falls ↦ inr falls
    ]) n to letter (TakenIn Whatever IsTurnAmong among_parts n to letter)
    (λ i old new good_ turn taken. record { good = good_; turn = turn; taken = taken }) first.core.size some t 3 3 extra order first last
    (omega arith) good refl
    stood turns windows

pub taken_law : (j n : ℕ) (letter : Letter) (order : List ℕ) (first last : Working) → WorksByTurns first.core → j < first.core.size.nodes
    → n < first.core.size.nodes → IsAmong letter (lane_of first.core Requests j n) → AreTurns IsTurnAmong order first last
    → HasWindows first.core.size.nodes 564 order
    → HasTurnBy IsTurnAmong n (λ old new. IsAmong letter (lane_of old.core Requests j n) × (IsAmong letter (lane_of new.core Requests j n)
    → ⊥)) order first last
taken_law j n letter order first last good f t among_ turns windows =
    let nodes = first.core.size.nodes in
    let is = request_about first.core j n letter good.reached f t among_ in
    let c = each_taken j n 0 letter order first last good f t (stands_in first.core j n letter good.between among_) turns windows in
    let part = among_parts c.node c.old c.new c.done.good c.done.turn in
    let taken = c.done.taken in
    let size = part.size ∙ size_goes Whatever IsTurnAmong among_parts c.before first c.old good c.leads in
    let f0 : j < part.begun.core.size.nodes = subst (λ (z : Size). j < z.nodes) (sym size) f in
    let t0 : n < part.begun.core.size.nodes = subst (λ (z : Size). n < z.nodes) (sym size) t in
    let l0 : letter.line < part.begun.core.size.lines = subst (λ (z : Size). letter.line < z.lines) (sym size) is.1 in
    let held = part.held in
    let answered = taken_answered Whatever c.node j n letter.line part.begun c.new letter taken f0 t0 l0 is.2 in
    let there : IsAmong letter (lane_of c.old.core Requests j n) =
    subst (IsAmong letter) (part.lanes Requests j n) (among_stands letter (lane_of part.begun.core Requests j n) taken.stood.at.before taken.stood.after
    taken.stood.at.lane) in
    let then_ = not_there c.new.core j n letter.line letter held.good (subst (λ (z : Size). j < z.nodes) (sym held.size) f0)
    (subst (λ (z : Size). n < z.nodes) (sym held.size) t0) (subst (λ (z : Size). letter.line < z.lines) (sym held.size) l0) is.0 is.2 answered in
    turn_of IsTurnAmong n (λ old new. IsAmong letter (lane_of old.core Requests j n) × (IsAmong letter (lane_of new.core Requests j n) → ⊥))
    (TakenIn Whatever IsTurnAmong among_parts j n letter) nodes 0 order first last c taken.server (there, then_)

-- the turn in which an answer is accepted
record Answered (n line i : ℕ) (old new : Working) : Type 0 where
  server : i ≡ n
  good : WorksByTurns old.core
  turn : IsTurnAmong i old new
  answered : AnsweredAt n line (among_parts i old new good turn).begun.core

pub answer_law : (n line : ℕ) (order : List ℕ) (first last : Working) → WorksByTurns first.core → n < first.core.size.nodes → line < first.core.size.lines
    → waits (state_on (node_at first.core n) line) ≡ true → AreTurns IsTurnAmong order first last → HasWindows first.core.size.nodes 565 order
    → HasTurnBy IsTurnAmong n (λ old new. IsSome (answer_to old.core n line)) order first last
answer_law n line order first last good some inside waiting turns windows =
    let nodes = first.core.size.nodes in
    let c = answer_by Whatever IsTurnAmong among_parts 140 each_taken n line (Answered n line)
    (λ i old new good_ turn same answered. record { server = same; good = good_; turn = turn; answered = answered })
    0 order first last good some inside waiting turns windows in
    let part = among_parts c.node c.old c.new c.done.good c.done.turn in
    let size = size_goes Whatever IsTurnAmong among_parts c.before first c.old good c.leads in
    let n0 : n < c.old.core.size.nodes = subst (λ (z : Size). n < z.nodes) (sym size) some in
    let l0 : line < c.old.core.size.lines = subst (λ (z : Size). line < z.lines) (sym size) inside in
    let at = c.done.answered in
    let answered : AnsweredAt n line c.old.core = record {
      from = at.from;
      sender = subst (λ (z : Size). at.from < z.nodes) part.size at.sender;
      letter = at.letter;
      answers = at.answers;
      about = at.about;
      among = subst (IsAmong at.letter) (part.lanes Answers at.from n) at.among;
    } in
    let is = answered_to c.old.core n line c.done.good.reached n0 l0 answered in
    turn_of IsTurnAmong n (λ old new. IsSome (answer_to old.core n line)) (Answered n line) nodes 0 order first last c c.done.server (subst IsSome
    (sym is) refl)
