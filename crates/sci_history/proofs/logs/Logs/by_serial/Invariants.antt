use Rattle.std.proofs.Common.{◌≡◌, ◌<◌, ℕ, length, map}
use Rattle.sci_words.specs.declared.limits.TheConstants.{MAX_NODES}
use Rattle.sci_history.specs.Placed.{in_serial_order, log_of}
use Rattle.sci_history.proofs.logs.Logs.by_serial.Given as goal

-- the logs of the nodes so far are sorted
abbrev pub invariant-loop-node : goal.invariant-loop-node
invariant-loop-node l = record {
  sixteen : length l.lists ≡ MAX_NODES;
  sorted : (node : ℕ) → node < l.node → log_of (map (λ log. log.items) l.lists) node ≡ in_serial_order (log_of l.self node);
}
