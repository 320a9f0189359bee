use Rattle.std.proofs.Common.{ℕ, ◌≡◌, ◌<◌, get_or, sym, subst}
use Rattle.sci_lanes.specs.Ends.{EndOf, nodes_in, IsNextToSend}
use Rattle.sci_lanes.proofs.Calls.{next_send}
use Rattle.sci_lanes.proofs.end.LaneEnd.next_to_send.Goals as goal

pub returns-clause-next : goal.returns-clause-next
returns-clause-next c =
    let s = c.self.inside in
    let number = c.index-number.result.now in
    subst (λ (e : EndOf). IsNextToSend e.part (record { kind = c.args.kind; sender = s.me; receiver = c.args.to; number = number })) c.self.view_is
    (next_send s.seat.part _ _ _ _ _ c.self.invariant.0 c.args.kind c.args.to number
    (subst (λ (e : EndOf). c.args.to < nodes_in e.part) (sym c.self.view_is) c.requires)
    (subst (λ (l : ℕ). number ≡ get_or s.turns.items l number) c.lane.ensures c.index-number.ensures))
