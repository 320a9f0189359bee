use Rattle.std.proofs.Common.{◌≡◌, ◌<◌, ℕ, Some}
use Rattle.std.specs.Prelude.{slice_get}
use Rattle.sci_judge.specs.declared.access.Access.{Access}
use Rattle.sci_judge.specs.{Forced.{IsHeld}, Witness.{IsAt}}
use Rattle.sci_judge.proofs.site.Site.are_held.Given as goal

-- the operations so far have their versions
abbrev pub invariant-loop-place : goal.invariant-loop-place
invariant-loop-place l = (place : ℕ) (access : Access) → place < l.place → IsAt l.self.accesses.now place access
    → (version : ℕ) × (slice_get l.versions place ≡ Some version) × IsHeld l.self.timed l.self.accesses.now l.makers place version access
