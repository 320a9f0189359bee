use Rattle.std.proofs.Common.{◌≤◌, ◌<◌, ℕ, length}
use Rattle.std.specs.Prelude.{slice_index_or}
use Rattle.sci_words.specs.declared.limits.TheConstants.{MAX_OPERATIONS}
use Rattle.sci_runs.proofs.table.most_operations.Given as goal

abbrev pub invariant-loop-own : goal.invariant-loop-own
invariant-loop-own l = record {
  some : 1 ≤ l.most;
  few : l.most ≤ MAX_OPERATIONS;
  all : (k : ℕ) (d : _) → k < l.own-index → length (slice_index_or l.operations k d).items ≤ l.most;
}
