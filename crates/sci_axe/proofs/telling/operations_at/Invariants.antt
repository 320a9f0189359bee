use Rattle.std.proofs.Common.{◌≡◌, take}
use Rattle.sci_judge.specs.Judgement.{at_address}
use Rattle.sci_axe.proofs.telling.operations_at.Given as goal

-- those at the address so far
abbrev pub invariant-loop-access : goal.invariant-loop-access
invariant-loop-access l = l.there.items ≡ at_address l.address (take l.access-index l.accesses)
