use Rattle.std.proofs.Common.{arith}
use Rattle.sci_runs.proofs.WorkingNodes.{all_opened, begins}
use Rattle.sci_runs.proofs.table.Table.new.Goals as goal

pub invariant_of-result : goal.invariant_of-result
invariant_of-result c =
    all_opened c.args.script.now c.args.issuing c.in_ok-recorder.recorder c.extent.result c.most_operations.result c.args.operations.now _ _
    c.in_ok-recorder.ensures.opening
    c.extent.ensures.nodes c.extent.ensures.lines c.extent.ensures.slots c.requires.nodes c.requires.each
    c.in_ok-players.ensures.drivers

pub returns-clause-begins : goal.returns-clause-begins
returns-clause-begins c = grind (arith, begins)
