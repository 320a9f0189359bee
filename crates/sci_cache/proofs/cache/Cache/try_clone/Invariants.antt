-- The lines so far are copied.
use Rattle.std.proofs.Common.{◌≡◌, take}
use Rattle.sci_cache.proofs.cache.Cache.try_clone.Given as goal

abbrev pub invariant-loop-line : goal.invariant-loop-line
invariant-loop-line l = l.lines.items ≡ take l.line-index l.line-items
