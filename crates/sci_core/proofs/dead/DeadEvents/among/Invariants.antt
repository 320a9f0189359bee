-- The events so far led the machine here, and these of them are dead.
use Rattle.std.proofs.Common.{◌≡◌, ◌≤◌, take}
use Rattle.std.specs.Prelude.{IfSome}
use Rattle.sci_core.specs.{Coherent.{IsCoherent}, Core.{run_from}, Dead.{dead_events, summary}}
use Rattle.sci_core.proofs.dead.DeadEvents.among.Given as goal

abbrev pub invariant-loop-event : goal.invariant-loop-event
invariant-loop-event l = record {
  led : l.machine ≡ run_from l.initial.machine (take l.event-index l.events);
  dead : l.dead ≡ summary (dead_events l.initial.machine 0 (take l.event-index l.events));
  counted : l.place ≡ l.event-index;
  few : IfSome l.dead (λ dead. dead.count ≤ l.place);
  coherent : IsCoherent l.machine;
}
