use Rattle.std.proofs.Common.{◌≡◌, arith, None, refl}
use Rattle.sci_words.specs.declared.event.Event.TheVariants.{Perform}
use Rattle.sci_core.specs.Core.{stepping}
use Rattle.sci_core.proofs.Step.Stepping.{stepping_nobody}
use Rattle.sci_statistics.proofs.Walked.{nobody_made}
use Rattle.sci_statistics.proofs.walk.performed.Goals.{Else-node-extent}
use Rattle.sci_statistics.proofs.walk.performed.Goals as goal

-- there is no such node, so nothing is performed
idle : (c : Else-node-extent) → stepping c.args.machine.now (Perform c.args.node c.args.line) ≡ None
idle c = stepping_nobody c.args.machine.now (Perform c.args.node c.args.line) (omega (arith, c.extent.ensures.nodes, c.if-node-extent.false))

pub returns-else-node-extent-clause-entry : goal.returns-else-node-extent-clause-entry
returns-else-node-extent-clause-entry c = nobody_made c.args.machine.now (Perform c.args.node c.args.line) (idle c)

pub returns-else-node-extent-clause-enabled : goal.returns-else-node-extent-clause-enabled
returns-else-node-extent-clause-enabled c = rw (idle c) refl

pub returns-else-node-extent-clause-step : goal.returns-else-node-extent-clause-step
returns-else-node-extent-clause-step c = rw (idle c) refl
