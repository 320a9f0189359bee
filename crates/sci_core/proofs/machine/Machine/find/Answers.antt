-- A line of the machine is a line of each node.
use Rattle.std.proofs.Common.{arith}
use Rattle.sci_core.proofs.Settling.Resting.{line_known}
use Rattle.sci_core.proofs.machine.Machine.find.Goals as goal

pub held-requires : goal.held-requires
held-requires c =
    let below = c.loop-n-test.true in
    let nodes = c.extent-n-end.ensures.nodes in
    line_known c.args.self.now c.loop-n.n c.args.line c.node.result.now c.extent-n-end.ensures.reached (omega arith) c.requires c.node.ensures.node
