use Rattle.std.proofs.Common.{◌≡◌, ℕ, ◌<◌, length, map}
use Rattle.sci_words.specs.declared.limits.TheConstants.{MAX_NODES}
use Rattle.sci_history.specs.Placed.{log_of}
use Rattle.sci_windows.specs.Relative.{relative_entry}
use Rattle.sci_windows.proofs.relative.relative_logs.Given as goal

-- the logs of the nodes so far are relative
abbrev pub invariant-loop-node : goal.invariant-loop-node
invariant-loop-node l = record {
  sixteen : length l.made ≡ MAX_NODES;
  made : (node : ℕ) → node < l.node → log_of l.made node ≡ map (relative_entry l.first) (log_of l.logs node);
}
