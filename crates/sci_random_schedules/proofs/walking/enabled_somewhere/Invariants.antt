use Rattle.std.proofs.Common.{◌≡◌}
use Rattle.sci_random_schedules.specs.Walking.{IsNotBefore}
use Rattle.sci_random_schedules.proofs.walking.enabled_somewhere.Given as goal

-- the event is enabled at none of the nodes so far, and the machine is the same
abbrev pub invariant-loop-steps : goal.invariant-loop-steps
invariant-loop-steps l = record {
  same : l.machine ≡ l.fn.machine;
  none : IsNotBefore l.fn.machine l.fn.first l.steps;
}
