use Rattle.std.proofs.Common.{ℕ, ◌≡◌, ◌<◌, get_or, sym, subst, arith}
use Rattle.sci_lanes.specs.Ends.{EndOf, nodes_in, IsNextToTake}
use Rattle.sci_lanes.proofs.Calls.{next_take}
use Rattle.sci_lanes.proofs.end.LaneEnd.next_to_take.Goals as goal

pub returns-clause-next : goal.returns-clause-next
returns-clause-next c =
    let s = c.self.inside in
    let number = c.index-number.result.now in
    subst (λ (e : EndOf). IsNextToTake e.part (record { kind = c.args.kind; sender = c.args.from; receiver = s.me; number = number })) c.self.view_is
    (next_take s.seat.part _ _ _ _ _ c.self.invariant.0 c.args.kind c.args.from number
    (subst (λ (e : EndOf). c.args.from < nodes_in e.part) (sym c.self.view_is) c.requires)
    (subst (λ (l : ℕ). number ≡ get_or s.inbox_turns.items l number) c.inbox.ensures.place c.index-number.ensures))

pub index-number-requires : goal.index-number-requires
index-number-requires c = grind arith
