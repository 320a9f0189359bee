-- What is read off a state: the logs of all nodes.
use Rattle.std.specs.{Prelude.{List, map}, List.{range_with_len}}
use Rattle.sci_words.specs.declared.limits.TheConstants.{MAX_NODES}
use Rattle.sci_history.specs.declared.entry.Entry.{Entry}
use Rattle.sci_core.specs.Core.{Core, node_at}

-- sixteen logs: each node's, and empty ones for the nodes that the machine doesn't have
abbrev pub logs_of : Core → List (List Entry)
logs_of core = map (λ n. (node_at core n).log) (range_with_len 0 MAX_NODES)
