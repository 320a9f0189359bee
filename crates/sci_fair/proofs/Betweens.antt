-- No answer waits between turns: not where a machine begins, nor after a turn, an Issue or a Perform.
use Rattle.std.proofs.Common.{◌≡◌, ◌≢◌, ◌<◌, ◌≤◌, ◌+◌, ◌*◌, ℕ, arith, List, [], length, Some, None, refl, sym, ap, subst, ◌∙◌, inl, inr}
use Rattle.std.proofs.lemmas.Bool.{cases_eq}
use Rattle.std.specs.Prelude.{IfSome}
use Rattle.sci_words.specs.declared.event.Event.{Event}
use Rattle.sci_cache.specs.Cache.{Letter}
use Rattle.sci_core.specs.declared.lane.LaneKind.TheVariants.{Requests, Answers}
use Rattle.sci_core.specs.Core.{Core, lane_of, node_at, opening, side, stepping, with_node}
use Rattle.sci_core.specs.Node.{NodeOf, may_issue, node_issuing, node_performing}
use Rattle.sci_core.specs.{Draining.{IsDrained}, Reached.{IsReached}, Size.{Size}}
use Rattle.sci_core.proofs.{Basics.Options.{of_some}, Settling.Drains.{some_node}, Step.NodeSides.{PerformedAs, perform_as}}
use Rattle.sci_turn.{proofs.Working.{stepped}}
use Rattle.sci_fair.specs.{Between.{AreShort, IsBetweenTurns}, Lanes.{IsWork}}
use Rattle.sci_fair.proofs.{Opens.{none_there}}
use Rattle.sci_fair.proofs.{ReadCarries.{changed_by, issued_waiting}, ReadSteps.{changed_out, opening_waits, performed_out}}
use Rattle.sci_words.specs.declared.event.Event.TheVariants as event

empty_short : (lane : List Letter) → lane ≡ [] → length lane ≤ 4
empty_short lane none = let long : length lane ≡ 0 = ap length none in omega (arith, long)

both_empty : (one two : List Letter) → one ≡ [] → two ≡ [] → length one + length two ≤ 4
both_empty one two none nothing =
    let first : length one ≡ 0 = ap length none in let second : length two ≡ 0 = ap length nothing in omega (arith, first, second)

pub drained_between : (core : Core) → IsDrained core → IsBetweenTurns core
drained_between core drained = grind (arith, empty_short, both_empty)

pub opening_between : (size : Size) → IsBetweenTurns (opening size)
opening_between size = drained_between (opening size) (record { waiting = opening_waits size; lanes = none_there (2 * size.nodes * size.nodes) })

-- one node is another, and no more or less waits there
changed_between : (core new : Core) (n : ℕ) (next : NodeOf) → IsReached core → n < core.size.nodes → with_node core n next ≡ new
    → next.waiting ≡ (node_at core n).waiting → IsBetweenTurns core → IsBetweenTurns new
changed_between core new n next reached some made waits between =
    let changed = changed_by core new n next reached some (λ k. ap (λ (c : Core). node_at c k) (sym made)) in
    record {
      free = λ m. elim (cases_eq m n) [
        | inl same ↦ subst (λ (k : ℕ). (node_at new k).waiting ≡ None) (sym same)
            (ap (λ (part : NodeOf). part.waiting) changed.own ∙ (waits ∙ between.free n))
        | inr other ↦ ap (λ (part : NodeOf). part.waiting) (changed.others m other) ∙ between.free m
      ];
      short = subst AreShort made between.short;
      room = subst (λ (c : Core). (a b : ℕ) → a < c.size.nodes → b < c.size.nodes → a ≢ b
          → length (lane_of c Requests a b) + length (lane_of c Answers b a) ≤ 4) made between.room;
    }

pub work_between : (core new : Core) (e : Event) → IsReached core → IsBetweenTurns core → IsWork e → stepping core e ≡ Some new → IsBetweenTurns new
work_between core new (event.Issue n op) reached between work steps =
    let node = node_at core n in
    let some : n < core.size.nodes = some_node core new (event.Issue n op) steps in
    let out = changed_out core new n (node_issuing node op) (stepped core new n (event.Issue n op) (side node (event.Issue n op)) some refl refl steps) in
    let issues : IfSome (node_issuing node op) (λ next. next.waiting ≡ node.waiting) = issued_waiting (may_issue node op) node op in
    changed_between core new n out.0 reached some out.2 (of_some (λ (part : NodeOf). part.waiting ≡ node.waiting) (node_issuing node op) out.0 out.1 issues)
    between
work_between core new (event.Perform n line) reached between work steps =
    let node = node_at core n in
    let some : n < core.size.nodes = some_node core new (event.Perform n line) steps in
    let out = performed_out core new n (node_performing node line)
    (stepped core new n (event.Perform n line) (side node (event.Perform n line)) some refl refl steps) in
    let told = of_some (PerformedAs node line) (node_performing node line) out.0 out.1 (perform_as node line) in
    changed_between core new n out.0.0 reached some out.2 (ap (λ (part : NodeOf). part.waiting) (sym told.next)) between
work_between core new _ reached between work steps = elim work [ ]
