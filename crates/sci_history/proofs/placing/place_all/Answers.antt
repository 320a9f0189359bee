use Rattle.std.proofs.Common.{ap, arith}
use Rattle.sci_history.specs.{Audit.{entries_of}, Placing.{rests_of}}
use Rattle.sci_history.proofs.PlaceSteps.{entries_long, nothing_placed, order_within}
use Rattle.sci_history.proofs.placing.place_all.Goals as goal

pub loop-placing-smaller : goal.loop-placing-smaller
loop-placing-smaller c =
    let within = order_within c.args.logs.now _ c.place_round.new.self.lines (rests_of c.args.logs.now c.place_round.new.self.next)
    (entries_of c.place_round.new.self.order.items) c.in_ok-place_round.ensures.placing in
    let more = c.in_ok-place_round.ensures.more in
    let long = entries_long c.place_round.new.self.order.items in
    omega arith

pub begin-requires-clause-orderable : goal.begin-requires-clause-orderable
begin-requires-clause-orderable c = (c.args.logs.now, c.requires.orderable)

pub loop-placing-init : goal.loop-placing-init
loop-placing-init c =
    nothing_placed c.args.logs.now c.args.loads.now c.begin.new.lines (entries_of c.in_ok-with_capacity.field-0.items) c.requires.orderable
    (ap entries_of c.in_ok-with_capacity.ensures.items) c.begin.ensures
