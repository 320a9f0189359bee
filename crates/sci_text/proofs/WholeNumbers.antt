-- Bytes that are a number, and nothing else.
use Rattle.std.proofs.Common.{◌≡◌, ◌==◌, ◌↔◌, ◌<◌, ◌^◌, ℕ, true, false, List, [], ◌∷◌, Option, Some, None, length, sym, ap, ◌∙◌, arith}
use Rattle.std.proofs.lemmas.{Bool.{cases_lt, eqb-true}, List.{append-nil}}
use Rattle.sci_text.specs.{Number.{number}, Reading.{fitting, number_read}}
use Rattle.sci_text.proofs.Numbers.{fitting_some, fitting_above, fitting_below, number_again, number_found}

-- what is read, if it is all there is
abbrev whole_of : Option (Option ℕ × List ℕ) → Option ℕ
whole_of None = None
whole_of (Some (value, [])) = value
whole_of (Some (value, b ∷ rest)) = None

fits_as : (m n : ℕ) → fitting m ≡ Some n → (m ≡ n) × (n < 2 ^ 64)
fits_as m n e = grind (arith, cases_lt, fitting_some, fitting_above)

found_whole : (bytes : List ℕ) (n : ℕ) (read : Option (Option ℕ × List ℕ)) → number_read bytes ≡ read → whole_of read ≡ Some n
    → (bytes ≡ number n) × (n < 2 ^ 64)
found_whole bytes n None read is = absurd cc
found_whole bytes n (Some (value, b ∷ rest)) read is = absurd cc
found_whole bytes n (Some (value, [])) read is = grind (arith, number_found, fits_as, append-nil)

whole_again : (bytes : List ℕ) (n : ℕ) → bytes ≡ number n → n < 2 ^ 64 → whole_of (number_read bytes) ≡ Some n
whole_again bytes n is lt = ap (λ (bs : List ℕ). whole_of (number_read bs)) (is ∙ sym (append-nil (number n)))
    ∙ (ap whole_of (number_again n [] tt) ∙ fitting_below n lt)

pub whole_is : (bytes : List ℕ) (n : ℕ) (read : Option (Option ℕ × List ℕ)) → number_read bytes ≡ read
    → (whole_of read ≡ Some n) ↔ ((bytes ≡ number n) × (n < 2 ^ 64))
whole_is bytes n read is = (found_whole bytes n read is, λ h. ap whole_of (sym is) ∙ whole_again bytes n h.0 h.1)

-- a number that is there with nothing after it, one with more after it, and none
pub whole_here : (bytes : List ℕ) (value : Option ℕ) (rest : List ℕ) → number_read bytes ≡ Some (value, rest) → (length rest == 0) ≡ true → (n : ℕ)
    → (value ≡ Some n) ↔ ((bytes ≡ number n) × (n < 2 ^ 64))
whole_here bytes value [] is short n = whole_is bytes n (Some (value, [])) is
whole_here bytes value (b ∷ rest) is short n = absurd (omega (arith, eqb-true (length (b ∷ rest)) 0 short))

pub whole_longer : (bytes : List ℕ) (value : Option ℕ) (rest : List ℕ) → number_read bytes ≡ Some (value, rest) → (length rest == 0) ≡ false → (n : ℕ)
    → (None ≡ Some n) ↔ ((bytes ≡ number n) × (n < 2 ^ 64))
whole_longer bytes value [] is long n = absurd cc
whole_longer bytes value (b ∷ rest) is long n = whole_is bytes n (Some (value, b ∷ rest)) is

pub whole_none : (bytes : List ℕ) → number_read bytes ≡ None → (n : ℕ) → (None ≡ Some n) ↔ ((bytes ≡ number n) × (n < 2 ^ 64))
whole_none bytes is n = whole_is bytes n None is
