use Rattle.std.proofs.Common.{length}
use Rattle.scimem.proofs.ReplayLogs.{IsLed}
use Rattle.scimem.proofs.replay.machine_of.Given as goal

abbrev pub invariant-loop-machine : goal.invariant-loop-machine
invariant-loop-machine l = IsLed l.input l.events l.machine l.dead l.place

abbrev pub decreases-loop-machine : goal.decreases-loop-machine
decreases-loop-machine l = length l.events.rest
