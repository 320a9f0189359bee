use Rattle.std.proofs.Common.{◌≤◌, ◌-◌}
use Rattle.sci_outcomes.specs.Trials.{AreWithin, IsCountOf}
use Rattle.sci_outcomes.proofs.trials.counted_in_batches.Given as goal

-- the runs so far are counted, and their outcomes aren't too many
abbrev pub invariant-batches : goal.invariant-batches
invariant-batches g l = record {
  counted : IsCountOf l.litmus.script.now l.litmus.turns l.litmus.issuing 0 l.start l.histogram;
  within : AreWithin l.litmus.script.now l.histogram;
  low : l.start ≤ l.all.end;
}

-- how many runs are left
abbrev pub decreases-batches : goal.decreases-batches
decreases-batches g l = l.all.end - l.start
