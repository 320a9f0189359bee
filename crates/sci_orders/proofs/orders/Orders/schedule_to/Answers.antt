-- The schedule of a way is that of a run.
use Rattle.std.proofs.Common.{sym, ap, subst, ◌∙◌}
use Rattle.sci_core.specs.{Core.{opening}, Settling.{AreMade}, Size.{size_of}}
use Rattle.sci_orders.proofs.Exactly.{way_has_run, way_made}
use Rattle.sci_orders.specs.{Orders.{HasRun}, Positions.{lists_of, position_of}, Witness.{any_event, schedule_of}}
use Rattle.sci_orders.proofs.orders.Orders.schedule_to.Goals as goal

pub returns-clause-run : goal.returns-clause-run
returns-clause-run c =
    let size = size_of c.args.extent c.args.limit in
    let operations = lists_of c.args.self.now.operations.now in
    let window = c.args.self.now.window in
    let p = position_of c.args.outcome.now in
    subst (HasRun size operations window p) (sym (c.in_ok-schedule_of.ensures c.args.limit ∙ ap (schedule_of size) c.deref.ensures.value))
    (way_has_run size operations window p c.in_ok-order.order.items c.requires.size c.requires.script c.requires.reached c.in_ok-order.ensures.way)

pub returns-clause-enabled : goal.returns-clause-enabled
returns-clause-enabled c =
    let size = size_of c.args.extent c.args.limit in
    subst (AreMade any_event (opening size)) (sym (c.in_ok-schedule_of.ensures c.args.limit ∙ ap (schedule_of size) c.deref.ensures.value))
    (way_made size (lists_of c.args.self.now.operations.now) c.args.self.now.window (position_of c.args.outcome.now) c.in_ok-order.order.items
    c.requires.size c.requires.script c.in_ok-order.ensures.way)
