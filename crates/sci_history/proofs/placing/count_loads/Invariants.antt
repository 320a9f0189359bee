use Rattle.sci_history.specs.{Audit.{entries_of}, Placed.{maker_count}}
use Rattle.sci_history.proofs.LoadCounts.{HasCounted}
use Rattle.sci_history.proofs.placing.count_loads.Given as goal

-- the counts are those of the loads so far
abbrev pub invariant-loop-entry : goal.invariant-loop-entry
invariant-loop-entry l = HasCounted l.counts.items l.entries l.entry-index (maker_count (entries_of l.entries))
