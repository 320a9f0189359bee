use Rattle.std.proofs.Common.{◌≡◌, ◌<◌, ℕ, Some}
use Rattle.std.specs.Prelude.{Contains, slice_get}
use Rattle.sci_judge.specs.declared.{access.Access.{Access}}
use Rattle.sci_judge.proofs.times.ends.Given as goal

-- the ends of the operations so far
abbrev pub invariant-loop-place : goal.invariant-loop-place
invariant-loop-place l =
    (i version : ℕ) (a : Access) → i < l.place → slice_get l.accesses i ≡ Some a → slice_get l.versions i ≡ Some version
    → Contains l.ends.items (record { end = a.end; version = version })
