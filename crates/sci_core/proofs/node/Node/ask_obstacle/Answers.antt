-- Nothing is in the way of an ask that is made.
use Rattle.std.proofs.Common.{arith, sym, ◌∙◌}
use Rattle.sci_core.proofs.Step.Obstacles.{ask_found}
use Rattle.sci_core.proofs.node.Node.ask_obstacle.Goals as goal

pub returns-then-is_some-clause-obstacle : goal.returns-then-is_some-clause-obstacle
returns-then-is_some-clause-obstacle c =
    sym (ask_found c.args.self.now c.args.line c.args.kind c.asked.result (omega (arith, c.extent.ensures.lines)) c.asked.ensures.asked
    (sym c.is_some.ensures ∙ c.if-is_some.true))
