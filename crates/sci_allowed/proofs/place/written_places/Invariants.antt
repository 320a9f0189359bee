use Rattle.std.proofs.Common.{◌≡◌}
use Rattle.sci_allowed.specs.Outcome.{written_places}
use Rattle.sci_allowed.proofs.place.written_places.Given as goal

-- the lines so far
abbrev pub invariant-loop-line : goal.invariant-loop-line
invariant-loop-line l = l.places.items ≡ written_places l.line l.operations
