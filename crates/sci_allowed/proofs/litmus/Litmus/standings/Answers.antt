use Rattle.std.proofs.Common.{arith}
use Rattle.sci_allowed.proofs.Litmuses.{many_are, runs_are, script_good, size_good}
use Rattle.sci_allowed.proofs.litmus.Litmus.standings.Goals as goal

pub outcomes-requires-clause-size : goal.outcomes-requires-clause-size
outcomes-requires-clause-size c = grind (arith, size_good)

pub outcomes-requires-clause-script : goal.outcomes-requires-clause-script
outcomes-requires-clause-script c = grind (arith, script_good)

pub returns-clause-runs : goal.returns-clause-runs
returns-clause-runs c =
    let extent = c.extent.ensures in
    runs_are c.args.self.now c.extent.result c.orders.result.operations.now c.requires extent.nodes extent.lines extent.slots c.orders.ensures.operations
    c.orders.result.window c.args.window c.orders.ensures.window c.outcomes.result c.outcomes.ensures.reached c.outcomes.ensures.each c.outcomes.ensures.all

pub returns-clause-many : goal.returns-clause-many
returns-clause-many c = grind (arith, many_are)
