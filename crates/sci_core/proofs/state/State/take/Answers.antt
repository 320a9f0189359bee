-- What the node does with the oldest packet is the step.
use Rattle.std.proofs.Common.{◌≡◌, List, set, drop, sym, ap, subst, ◌∙◌, arith}
use Rattle.std.specs.Prelude.{option_map, slice_get}
use Rattle.sci_cache.specs.Cache.{Letter, letter_of}
use Rattle.sci_core.specs.{declared.lane.LaneKind.{LaneKind}}
use Rattle.sci_core.specs.{Core.{Core, lane_place, lane_of, with_lane}}
use Rattle.sci_core.proofs.Step.States.{read_at}
use Rattle.sci_core.proofs.Step.Takings.{taking_from_nobody, taking_empty, takable, taking_untaken, taking_done}
use Rattle.sci_core.proofs.state.State.take.Goals as goal

pub returns-then-from-nodes-clause-not : goal.returns-then-from-nodes-clause-not
returns-then-from-nodes-clause-not c = λ _. taking_from_nobody c.args.self.now c.args.taking c.args.from c.args.n c.requires.n (omega arith)

pub returns-in_default-clause-not : goal.returns-in_default-clause-not
returns-in_default-clause-not c = grind (arith, taking_empty)

pub take-requires : goal.take-requires
take-requires c = grind (arith, read_at, takable)

pub returns-then-not-take-clause-not : goal.returns-then-not-take-clause-not
returns-then-not-take-clause-not c = grind (arith, read_at, taking_untaken)

pub returns-clause-done : goal.returns-clause-done
returns-clause-done c = λ _.
    let core = c.args.self.now in
    let from = c.args.from in
    let n = c.args.n in
    let front = c.front.ensures ∙ ap (λ (lane : List Letter). slice_get lane 0) c.lane.ensures
    ∙ ap (λ (k : LaneKind). slice_get (lane_of core k c.args.from c.args.n) 0) c.lane_kind-kind.ensures in
    let some = sym front ∙ ap (option_map letter_of) (sym c.copied.ensures ∙ c.in-Some.is) in
    let read = read_at _ _ c.from.result c.args.n _ c.self.view_is c.self.invariant.parts_long c.from.ensures c.requires.n c.index_mut.ensures.value in
    let dropped = subst (λ (k : Core).
    c.drop_front.new.self ≡ with_lane (record k { parts = set k.parts c.from.result c.take.new.self })
    (lane_place k.size.nodes c.lane_kind-kind.result from n) (drop 1 (lane_of k c.lane_kind-kind.result from n))) c.self.view_is c.drop_front.ensures in
    let same = subst (λ (kind : LaneKind).
    c.drop_front.new.self ≡ with_lane (record core { parts = set core.parts c.from.result c.take.new.self }) (lane_place core.size.nodes kind from n)
    (drop 1 (lane_of core kind from n))) c.lane_kind-kind.ensures dropped in
    taking_done core c.drop_front.new.self c.args.taking from n c.from.result c.index_mut.result.now c.take.new.self (letter_of c.in-Some.packet)
    c.requires.n (omega arith) some c.from.ensures read (c.take.ensures.taken c.if-not-take.false) same
