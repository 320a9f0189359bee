-- The lines so far are untouched.
use Rattle.std.proofs.Common.{◌≡◌, replicate}
use Rattle.sci_cache.specs.Line.{untouched}
use Rattle.sci_cache.proofs.cache.Cache.new.Given as goal

abbrev pub invariant-loop-place : goal.invariant-loop-place
invariant-loop-place l = l.lines.items ≡ replicate l._place untouched
