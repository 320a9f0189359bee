-- The node that a line has asked, as far as its state tells.
use Rattle.std.specs.Prelude.{ℕ, Option, None}
use Rattle.sci_cache.specs.{Asking.{asked_node}, State.{CacheState, Rolling}}

-- The node that a line in this state asked, if its state tells. That of a line which rolls out may have been before another.
abbrev pub told_asked : ℕ → CacheState → Option ℕ
told_asked home (Rolling f b c) = None
told_asked home state = asked_node home state
