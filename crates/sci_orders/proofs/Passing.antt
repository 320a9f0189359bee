-- The operations of a node are looked at one after another, whether they keep the next one from being issued.
use Rattle.std.proofs.Common.{◌≡◌, ℕ, ◌+◌, ◌<◌, ◌&&◌, nat_lt, not, Bool, true, false, List, length, take, get_or, sym, ap, ◌∙◌, arith}
use Rattle.std.proofs.lemmas.{Bool.{eq-eqb}, List.Sums.{count_by_more_no, count_by_more_yes}}
use Rattle.std.specs.{List.{list_any, range_with_len}, Prelude.{count_by}}
use Rattle.sci_words.specs.declared.operation.Op.{Op}
use Rattle.sci_orders.proofs.Places.{any_found, any_more}
use Rattle.sci_orders.specs.{Positions.{blocks, is_blocked, is_waiting, may_issue_next}, declared.standing.Answer.{Answer}}
use Rattle.sci_orders.specs.declared.standing.Answer.TheVariants as answer

-- none of the first operations blocks operation i, and this number of them waits
pub record IsPassed (own : List Op) (as_ : List Answer) (i count waiting : ℕ) : Type 0 where
  pub none : list_any (blocks own as_ i) (range_with_len 0 count) ≡ false
  pub many : waiting ≡ count_by is_waiting (take count as_)

pub passed_yes : (own : List Op) (as_ : List Answer) (i j waiting : ℕ) → IsPassed own as_ i j waiting → j < length as_
    → is_waiting (get_or as_ j answer.Stored) ≡ true → blocks own as_ i j ≡ false → IsPassed own as_ i (j + 1) (waiting + 1)
passed_yes own as_ i j waiting so below is free = grind (arith, count_by_more_yes, any_more)

pub passed_no : (own : List Op) (as_ : List Answer) (i j waiting : ℕ) → IsPassed own as_ i j waiting → j < length as_
    → is_waiting (get_or as_ j answer.Stored) ≡ false → IsPassed own as_ i (j + 1) waiting
passed_no own as_ i j waiting so below is = grind (arith, count_by_more_no, any_more)

pub blocked : (own : List Op) (as_ : List Answer) (window i j : ℕ) → length as_ ≡ i → j < length as_
    → blocks own as_ i j ≡ true → false ≡ may_issue_next own as_ window i
blocked own as_ window i j next below is =
    sym (ap (λ (b : Bool). b && (not (is_blocked own as_ i) && nat_lt (count_by is_waiting as_) window))
    (eq-eqb (length as_) i next)
    ∙ ap (λ (b : Bool). not b && nat_lt (count_by is_waiting as_) window) (any_found (blocks own as_ i) (length as_) j below is))
