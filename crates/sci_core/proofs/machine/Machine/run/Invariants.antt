-- The machine stands where the events so far lead, and has kept its size.
use Rattle.std.proofs.Common.{◌≡◌, take}
use Rattle.sci_core.specs.Core.{run_from}
use Rattle.sci_core.proofs.machine.Machine.run.Given as goal

abbrev pub invariant-loop-event : goal.invariant-loop-event
invariant-loop-event l = (l.self ≡ run_from l.initial.self (take l.event-index l.events)) × (l.self.size ≡ l.initial.self.size)
