use Rattle.std.proofs.Common.{◌≡◌, filter, take}
use Rattle.sci_axe.specs.Parts.{is_in_part}
use Rattle.sci_axe.proofs.sharing.Share.accesses.Given as goal

-- those in the part so far
abbrev pub invariant-loop-access : goal.invariant-loop-access
invariant-loop-access l =
    l.there.items ≡ filter (λ access. is_in_part l.self.cuts.now l.part access.address) (take l.access-index l.access-items)
