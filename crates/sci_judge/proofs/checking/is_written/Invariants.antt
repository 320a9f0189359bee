use Rattle.std.proofs.Common.{◌≡◌, false, take}
use Rattle.std.specs.List.{list_any}
use Rattle.sci_judge.specs.Witness.{writes}
use Rattle.sci_judge.proofs.checking.is_written.Given as goal

-- none writes it so far
abbrev pub invariant-loop-access : goal.invariant-loop-access
invariant-loop-access l = list_any (writes l.word) (take l.access-index l.accesses) ≡ false
