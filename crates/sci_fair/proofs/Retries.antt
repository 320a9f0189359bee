-- What isn't tried again and again: a line that awaits the answer to a read, or to its Setback, or that was purged while it rolled, gets
-- another rank when its answer comes; and so does the line that a Purge reaches. So in steady turns there is none of them for long.
use Rattle.std.proofs.Common.{◌≡◌, ◌<◌, ◌%◌, ◌==◌, ◌⊎◌, ℕ, Bool, true, false, arith, List, [], ◌∷◌}
use Rattle.std.proofs.Common.{Option, None, refl, sym, ap, subst, ◌∙◌, inl, inr, rules}
use Rattle.std.specs.Prelude.{IfSome}
use Rattle.sci_history.specs.Seen.{IsAmong}
use Rattle.sci_words.specs.declared.event.{Event.{Event}}
use Rattle.sci_packets.specs.{declared.body.Body.{Body, TheVariants.{Purge}}, Table.{is_request}}
use Rattle.sci_home.specs.Serving.{is_for_home}
use Rattle.sci_cache.specs.{State.{CacheState, waits}, Serving.{serving}}
use Rattle.sci_cache.specs.{Cache.{Letter, line_of}}
use Rattle.sci_core.specs.declared.lane.LaneKind.TheVariants.{Requests}
use Rattle.sci_core.specs.{Core.{Core, lane_of, lane_place, node_at}, Size.{Size}}
use Rattle.sci_core.specs.{Shape.{follows, state_at}, Sharing.{answer_in, answer_to, is_about, packets_of}}
use Rattle.sci_core.proofs.{Step.{Places.{place_to}}}
use Rattle.sci_core.proofs.{Tidy.TidyRuns.{reached_tidy}}
use Rattle.sci_policy.specs.{Lines.{state_on}, Policy.{PolicyOf, is_cread}}
use Rattle.sci_fair.specs.{Rank.{rank, work_on}, Steady.{AreSteadyTurns, HasWindows, Working, WorksByTurns}}
use Rattle.sci_fair.specs.Retries.{is_tried_once}
use Rattle.sci_fair.proofs.{Awaiting.{IsElsewhere, accepted_idle, never_serves}, Kept.{IsIn, kept_along, kept_in, once}, LaneTurns.{among_stands}}
use Rattle.sci_fair.proofs.Followers.{purge_finds}
use Rattle.sci_fair.proofs.{ReadSteps.{refuses_cread, refuses_it}, AnswersCome.{AnswerTurn, answer_within}}
use Rattle.sci_fair.proofs.Requests.{request_taken, size_along, stands_in}
use Rattle.sci_fair.proofs.{Steadied.{IsSteady}}
use Rattle.sci_fair.proofs.{SteadyTurns.{Held}, Whereabouts.{in_lane, lane_packets}, WholeTurns.{request_alone, sent_purge, sole}}
use Rattle.sci_words.specs.declared.event.Event.TheVariants as event

-- ---- the tables

once_waits : (s : CacheState) → is_tried_once s ≡ true → waits s ≡ true
once_waits s is = search rules

purged_rank : (work : Option Bool) (s : CacheState) (m : ℕ) → follows s ≡ true
    → IfSome (serving s m Purge) (λ (served : CacheState × Body). (rank work served.0 == rank work s) ≡ false)
purged_rank work s m is = search rules

-- ---- such a line stays as it is, but its answer comes

own_once : (n line i : ℕ) (old new : Working) → (done : AnswerTurn n line i old new) → n < old.core.size.nodes → line < old.core.size.lines
    → IsIn once n line old.core → ⊥
own_once n line i old new done some inside is =
    let held : Held n old new = subst (λ (m : ℕ). Held m old new) done.server done.held in
    let t = held.trace in
    let first = (kept_in once n line old new held).accepted is in
    let idle = accepted_idle n done.answered.from line old new done.answered.letter done.good held some inside done.answered.sender done.answered.answers
    done.answered.about done.answered.among in
    let clash : true ≡ false = sym (once_waits (state_on (node_at t.c1 n) line) first) ∙ idle in cc

-- and then it doesn't wait
pub never_once : (n line : ℕ) (order : List ℕ) (first last : Working) → WorksByTurns first.core → n < first.core.size.nodes → line < first.core.size.lines
    → AreSteadyTurns order first last → HasWindows first.core.size.nodes 281 order → is_tried_once (state_on (node_at first.core n) line) ≡ true → ⊥
never_once n line order first last good some inside turns windows is =
    let c = answer_within n line 0 order first last good some inside (once_waits (state_on (node_at first.core n) line) is) turns windows in
    let size = size_along c.before first c.old good c.leads in
    let n0 : n < c.old.core.size.nodes = subst (λ (z : Size). n < z.nodes) (sym size) some in
    let l0 : line < c.old.core.size.lines = subst (λ (z : Size). line < z.lines) (sym size) inside in
    let there = kept_along once n line c.before first c.old good c.leads is in
    own_once n line c.node c.old c.new c.done n0 l0 there

-- ---- a Purge is served, and the line that it reaches gets another rank

purge_plain : (b : Body) → b ≡ Purge → is_cread b ≡ false
purge_plain b is = ap is_cread is

-- an event that takes it serves it
takes_purge : (n to : ℕ) (p : PolicyOf) (x : Core) (e : Event) (q : PolicyOf) (y : Core) (request : Letter) (rest : List Letter) → IsSteady to p x e q y
    → lane_of x Requests n to ≡ request ∷ rest → (e ≡ event.Serve n to) ⊎ (e ≡ event.Refuse n to) → request.line < x.size.lines → request.body ≡ Purge
    → follows (state_on (node_at x to) request.line) ≡ true → ⊥
takes_purge n to p x e q y request rest st lane (inr refuse) inside purge follow = grind (arith, refuses_cread, refuses_it, purge_plain)
takes_purge n to p x e q y request rest st lane (inl serve) inside purge follow =
    never_serves to p x n to q y request rest (subst (λ (o : Event). IsSteady to p x o q y) serve st) lane inside (ap is_for_home purge)
    (subst (λ (b : Body). IfSome (serving (state_on (node_at x to) request.line) request.source b) (IsElsewhere to request.line x)) (sym purge)
    (purged_rank (work_on (node_at x to) request.line) (state_on (node_at x to) request.line) request.source follow))

-- in steady turns no Purge is in a lane for long
pub never_purge : (n to : ℕ) (letter : Letter) (order : List ℕ) (first last : Working) → WorksByTurns first.core → n < first.core.size.nodes
    → to < first.core.size.nodes → letter.line < first.core.size.lines → is_request letter.body ≡ true → is_about n letter.line letter ≡ true
    → letter.body ≡ Purge → IsAmong letter (lane_of first.core Requests n to) → AreSteadyTurns order first last
    → HasWindows first.core.size.nodes 280 order → ⊥
never_purge n to letter order first last good some t inside asks about purge among turns windows =
    let nodes = first.core.size.nodes in
    let stood = stands_in first.core n to letter good.between among in
    let c = request_taken 3 3 nodes n to 0 letter order first last (omega arith) good refl some t stood turns windows in
    let took = c.done.took in
    let x = took.x in
    let size : x.size ≡ first.core.size = sym took.size ∙ (c.done.held.trace.taken.so.since.size ∙ size_along c.before first c.old good c.leads) in
    let n0 : n < x.size.nodes = subst (λ (z : Size). n < z.nodes) (sym size) some in
    let t0 : to < x.size.nodes = subst (λ (z : Size). to < z.nodes) (sym size) t in
    let l0 : letter.line < x.size.lines = subst (λ (z : Size). letter.line < z.lines) (sym size) inside in
    let there = among_stands letter (lane_of x Requests n to) [] took.rest took.lane in
    let packet = lane_packets x Requests n to n letter.line letter took.goes.reached n0 t0 about there in
    let alone = sole (letter.line % x.size.nodes) (line_of (node_at x n).cache letter.line) (packets_of x n letter.line) letter
    (reached_tidy x took.goes.reached n letter.line n0 l0) packet in
    let state = sent_purge (letter.line % x.size.nodes) (state_on (node_at x n) letter.line) letter (alone.awaited.sent asks) purge in
    let is = in_lane x (lane_place x.size.nodes Requests n to) letter took.goes.reached there in
    let target : letter.target ≡ to = is.to ∙ place_to x.size.nodes Requests n to t0 in
    let none : answer_to x n letter.line ≡ None = ap answer_in alone.one ∙ request_alone letter asks in
    let follow = purge_finds x letter.line n letter.target state.0 took.goes.reached l0 state.1 none in
    takes_purge n to took.p x took.e took.q took.y letter took.rest took.goes took.lane took.takes l0 purge
    (subst (λ (m : ℕ). follows (state_at x letter.line m) ≡ true) target follow)
