use Rattle.std.proofs.Common.{◌≡◌, ◌⊎◌, ℕ, All, Some, true}
use Rattle.std.specs.{BTreeMap.{get}, List.{Contains}, Map.{keys_of}, Ordering.{nat_cmp}}
use Rattle.sci_axe.specs.Parts.{is_in_part, last_in}
use Rattle.sci_axe.proofs.sharing.Share.last.Given as goal

-- an address in the part comes, or has its last word, and others have none
abbrev pub invariant-loop-address : goal.invariant-loop-address
invariant-loop-address l = record {
  found : All (λ e. get nat_cmp l.self.trace.now.last e.0 ≡ Some e.1) l.address-iterator;
  each : (q : ℕ) → ((is_in_part l.self.cuts.now l.part q ≡ true) × Contains (keys_of l.address-iterator) q)
      ⊎ (get nat_cmp l.last q ≡ last_in l.self.cuts.now l.part l.self.trace.now q);
}
