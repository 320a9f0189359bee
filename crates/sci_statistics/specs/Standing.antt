-- The states of a line at a node.
use Rattle.std.specs.Prelude.{◌==◌, ◌%◌, ◌&&◌, nat_lt, ℕ, Option, Some, None, if◌then◌else◌}
use Rattle.sci_cache.specs.{Cache.{line_of}, State.{CacheState}}
use Rattle.sci_core.specs.{Core.{Core, node_at}, Node.{home_of, lines_of}}
use Rattle.sci_home.specs.declared.state.HomeState.{HomeState}

-- its state in the node's cache; none if there is no such node or line
abbrev pub cache_at : Core → ℕ → ℕ → Option CacheState
cache_at core n line = if nat_lt n core.size.nodes && nat_lt line (lines_of (node_at core n)) then Some (line_of (node_at core n).cache line).state else None

-- its home's state; none if its home isn't at the node
abbrev pub home_at : Core → ℕ → ℕ → Option HomeState
home_at core n line =
    if (nat_lt n core.size.nodes && nat_lt line (lines_of (node_at core n))) && (line % (node_at core n).cache.nodes == (node_at core n).cache.me)
    then Some (home_of (node_at core n) line)
    else None
