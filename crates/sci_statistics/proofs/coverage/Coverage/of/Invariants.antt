use Rattle.std.proofs.Common.{◌≡◌, ◌+◌, ◌≤◌, count_by, drop}
use Rattle.sci_statistics.specs.declared.transition.Transition.{Transition}
use Rattle.sci_statistics.specs.{Coverage.{capped, times}, Meetings.{transitions, transitions_from}, Transitions.{is_transition}}
use Rattle.sci_statistics.proofs.coverage.Coverage.of.Given as goal

-- the transitions so far are counted, and what is left of them comes behind
abbrev pub invariant-loop-event : goal.invariant-loop-event
invariant-loop-event l = record {
  small : (t : Transition) → times l.found t ≤ 0xffff_ffff_ffff_ffff;
  counted : (t : Transition) →
      capped (times l.found t + count_by (is_transition t) (transitions l.machine (drop l.event-index l.events)))
      ≡ capped (count_by (is_transition t) (transitions_from l.fn.extent l.events));
}
