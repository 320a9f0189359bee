use Rattle.std.proofs.Common.{◌≡◌, ◌+◌}
use Rattle.std.specs.BTreeMap.{get}
use Rattle.sci_allowed.specs.{Outcome.{outcome_cmp}, declared.outcome.Outcome.{Outcome}}
use Rattle.sci_outcomes.proofs.Joined.{runs_in, with_entries}
use Rattle.sci_outcomes.proofs.histogram.Histogram.absorb.Given as goal

-- the entries so far are joined
abbrev pub invariant-loop-outcome : goal.invariant-loop-outcome
invariant-loop-outcome l = record {
  each : (q : Outcome) → get outcome_cmp l.self.tallies q ≡ with_entries l.fn.self.runs q (get outcome_cmp l.fn.self.tallies q) l.yielded;
  whole : runs_in l.self.tallies.entries ≡ runs_in l.fn.self.tallies.entries + runs_in l.yielded;
  same : l.self.runs ≡ l.fn.self.runs;
}
