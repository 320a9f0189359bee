-- A binary search finds an outcome exactly if it is among those that are sorted.
use Rattle.std.proofs.Common.{◌≡◌, ℕ, ◌+◌, List, length, get_or, Result, Ok, Err, sym, ap, ◌∙◌, arith, inl, inr}
use Rattle.std.proofs.lemmas.{Bool.{cases_lt}, List.{Folds.{list_any_at, list_any_none}, Sorted.{searchable_from_sorted}}, Map.Keys.{Less-from_sorted}}
use Rattle.std.specs.List.Sorted.{IsBinarySearchResult, IsSearchInRange, IsSortedBy, IsStrictlySortedBy}
use Rattle.std.specs.{Ordering.{is_eq, is_lt, ordering_reverse}, Result.{is_ok}}
use Rattle.sci_allowed.specs.{Allowed.{is_among}, Outcome.{outcome_cmp}, declared.outcome.Outcome.{Outcome}}
use Rattle.sci_allowed.specs.contracts.outcome.OutcomeOrd.TheImpl.Laws.{matches_eq-law, total-law}
use Rattle.sci_allowed.specs.contracts.outcome.OutcomePartialEq.TheImpl as TheEquality

sorted_of : (xs : List Outcome) → IsStrictlySortedBy outcome_cmp xs → IsSortedBy (λ a b. is_lt (outcome_cmp a b)) xs
sorted_of xs sorted = λ k d low lt.
    ap is_lt (total-law.antisymm (get_or xs (k + 1) d) (get_or xs k d)
    ∙ ap ordering_reverse (Less-from_sorted outcome_cmp xs k (k + 1) d sorted (omega arith) lt))

pub found_is : (xs : List Outcome) (x : Outcome) (found : Result ℕ ℕ) → IsSearchInRange found (length xs)
    → IsBinarySearchResult (λ y. outcome_cmp y x) xs found → IsStrictlySortedBy outcome_cmp xs → is_ok found ≡ is_among xs x
found_is xs x (Ok at) in_range here sorted =
    sym (list_any_at (λ other. (TheEquality.ghosts).eq other x) xs at x in_range (matches_eq-law (get_or xs at x) x ∙ ap is_eq (here x)))
found_is xs x (Err at) in_range parted sorted =
    let both = parted (searchable_from_sorted total-law (λ y. y) xs x (sorted_of xs sorted)) in
    sym (list_any_none (λ other. (TheEquality.ghosts).eq other x) xs (λ k d lt. elim (cases_lt k at) [
      | inl low ↦ matches_eq-law (get_or xs k d) x ∙ ap is_eq (both.0 k d (omega arith) low)
      | inr past ↦ matches_eq-law (get_or xs k d) x ∙ ap is_eq (both.1 k d past lt)
    ]))
