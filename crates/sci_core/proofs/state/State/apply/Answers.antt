-- There is no such node.
use Rattle.sci_core.proofs.Step.Stepping.{stepping_nobody}
use Rattle.std.proofs.Common.{arith}
use Rattle.sci_core.proofs.state.State.apply.Goals as goal

pub returns-then-node_of-nodes-clause-refused : goal.returns-then-node_of-nodes-clause-refused
returns-then-node_of-nodes-clause-refused c = stepping_nobody c.args.self.now c.args.event.now (omega arith)
