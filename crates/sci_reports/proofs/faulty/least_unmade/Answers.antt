-- A sort moves the versions, and so none comes or goes.
use Rattle.std.proofs.Common.{◌∙◌, ℕ, arith, sym}
use Rattle.std.proofs.lemmas.List.Sorted.{IsNonDecreasingBy-from_sort, length_permutation, list_any-IsPermutation}
use Rattle.std.specs.Prelude.{◌==◌}
use Rattle.sci_reports.proofs.faulty.least_unmade.Goals as goal

pub least_outside-requires : goal.least_outside-requires
least_outside-requires c =
    let versions = c.in_ok-versions.versions in
    let sorted = c.in_ok-sort.ensures in
    rw c.deref.ensures.value (record {
      rise = IsNonDecreasingBy-from_sort (λ x. x) c.sort.new.self.items sorted.sorted;
      few = omega (arith, length_permutation versions.items c.sort.new.self.items sorted.permutation, versions.ok.0, versions.ok.1, versions.small);
    })

pub returns : goal.returns
returns c =
    let versions = c.in_ok-versions.versions.items in
    let same = λ (version : ℕ). list_any-IsPermutation (λ number. number == version) versions c.sort.new.self.items c.in_ok-sort.ensures.permutation in
    let least = rw c.deref.ensures.value at c.least_outside.ensures in
    let made = c.in_ok-versions.ensures in
    record {
      positive = least.positive;
      outside = sym (made c.least_outside.result) ∙ same c.least_outside.result ∙ least.outside;
      below = λ n some under. sym (made n) ∙ same n ∙ least.below n some under;
    }
