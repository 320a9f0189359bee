-- The bits of a set of lines.
use Rattle.std.proofs.Common.{◌≡◌, ◌≢◌, ◌<◌, ◌≤◌, ℕ, zero, suc, ◌+◌, ◌-◌, ◌/◌, ◌%◌, ◌*◌, bit_and, bit_or, w64, true, false, sym, ap, ◌∙◌, refl, arith, inl}
use Rattle.std.proofs.{Common.{Bool, not, ◌||◌, inr}, lemmas.{Bool.{cases_lt}, Nat.{shr-shr}}}
use Rattle.std.proofs.lemmas.Nat.Bits.{bit_at_above, bit_at_and, bit_at-lt, bit_at_clear_other, bit_at_clear_same, bit_at_set_other, bit_at_set_same}
use Rattle.std.proofs.lemmas.Nat.Bits.{bit_at_not, bit_at_or, bit_at-trailing_zeros, bit_at-zero}
use Rattle.std.specs.{Prelude.{◌==◌, ◌^◌, ◌&&◌, min, max}, Int.{bit_at, trailing_zeros}}
use Rattle.sci_cache.specs.LineSet.{is_in}

is_one : (a b : ℕ) → a ≡ b → (a == 1) ≡ (b == 1)
is_one a b e = ap (λ n. n == 1) e

pub none_in : (line : ℕ) → is_in 0 line ≡ false
none_in line = is_one _ 0 (bit_at-zero line)

pub above_none : (set line : ℕ) → set < 2 ^ 64 → 64 ≤ line → is_in set line ≡ false
above_none set line small far = is_one _ 0 (bit_at_above set 64 line small far)

-- ---- a line put in or taken out

pub set_here : (set line : ℕ) → line < 64 → is_in (bit_or set (1 * 2 ^ line % 18446744073709551616)) line ≡ true
set_here set line lt = is_one _ 1 (bit_at_set_same w64 set line lt)

pub set_other : (set line other : ℕ) → line < 64 → other ≢ line → is_in (bit_or set (1 * 2 ^ line % 18446744073709551616)) other ≡ is_in set other
set_other set line other lt ne = is_one _ _ (bit_at_set_other w64 set line lt other ne)

pub clear_here : (set line : ℕ) → line < 64 → is_in (bit_and set (18446744073709551615 - 1 * 2 ^ line % 18446744073709551616)) line ≡ false
clear_here set line lt = is_one _ 0 (bit_at_clear_same w64 set line lt)

pub clear_other : (set line other : ℕ) → set < 2 ^ 64 → line < 64 → other ≢ line
    → is_in (bit_and set (18446744073709551615 - 1 * 2 ^ line % 18446744073709551616)) other ≡ is_in set other
clear_other set line other small lt ne = elim (cases_lt other 64) [
  | inl below ↦ is_one _ _ (bit_at_clear_other w64 set line lt other below ne)
  | inr above ↦ is_one _ _ (let both = bit_at_and set (18446744073709551615 - 1 * 2 ^ line % 18446744073709551616) other in
      let none = bit_at_above set 64 other small above in omega arith)
]

-- ---- the lines that two sets have

both_bits : (m n : ℕ) → m < 2 → n < 2 → (min m n == 1) ≡ ((m == 1) && (n == 1))
both_bits (suc (suc m)) n m-is n-is = absurd (omega arith)
both_bits m (suc (suc n)) m-is n-is = absurd (omega arith)
both_bits (suc zero) (suc zero) m-is n-is = refl
both_bits _ _ _ _ = refl

pub in_both : (a b line : ℕ) → is_in (bit_and a b) line ≡ (is_in a line && is_in b line)
in_both a b line = is_one _ _ (bit_at_and a b line) ∙ both_bits (bit_at a line) (bit_at b line) (bit_at-lt a line) (bit_at-lt b line)

-- ---- the lines from one on

shifted : (set from line : ℕ) → is_in (set / 2 ^ from) line ≡ is_in set (from + line)
shifted set from line = ap (λ n. n % 2 == 1) (shr-shr set from line)

pub none_above : (set from line : ℕ) → set / 2 ^ from ≡ 0 → from ≤ line → is_in set line ≡ false
none_above set from line none le =
    let there : from + (line - from) ≡ line = omega arith in
    ap (is_in set) (sym there) ∙ (sym (shifted set from (line - from)) ∙ (ap (λ n. is_in n (line - from)) none ∙ none_in (line - from)))

pub none_so_far : (set from line : ℕ) → set < 2 ^ 64 → 64 ≤ from → from ≤ line → is_in set line ≡ false
none_so_far set from line small far le = above_none set line small (omega arith)

pub first_in : (set from : ℕ) → 0 < set / 2 ^ from → set / 2 ^ from < 2 ^ 64 → is_in set (from + trailing_zeros w64 (set / 2 ^ from)) ≡ true
first_in set from some small = sym (shifted set from _) ∙ is_one _ 1 (bit_at-trailing_zeros w64 (set / 2 ^ from) some small).1

pub first_small : (set from : ℕ) → set < 2 ^ 64 → 0 < set / 2 ^ from → set / 2 ^ from < 2 ^ 64 → from + trailing_zeros w64 (set / 2 ^ from) < 64
first_small set from small some low = elim (cases_lt (from + trailing_zeros w64 (set / 2 ^ from)) 64) [
  | inl below ↦ below
  | inr above ↦ absurd (let clash : true ≡ false = sym (first_in set from some low) ∙ above_none set _ small above in cc)
]

pub none_between : (set from line : ℕ) → 0 < set / 2 ^ from → set / 2 ^ from < 2 ^ 64 → from ≤ line → line < from + trailing_zeros w64 (set / 2 ^ from)
    → is_in set line ≡ false
none_between set from line some small le before =
    let there : from + (line - from) ≡ line = omega arith in
    ap (is_in set) (sym there) ∙ (sym (shifted set from (line - from))
    ∙ is_one _ 0 ((bit_at-trailing_zeros w64 (set / 2 ^ from) some small).2 (line - from) (omega arith)))

-- ---- the lines that a set has and another hasn't, and those that either has

first_bit : (m n : ℕ) → m < 2 → n < 2 → (min m (1 - n) == 1) ≡ ((m == 1) && not (n == 1))
first_bit (suc (suc m)) n m-is n-is = absurd (omega arith)
first_bit m (suc (suc n)) m-is n-is = absurd (omega arith)
first_bit (suc zero) zero m-is n-is = refl
first_bit (suc zero) (suc zero) m-is n-is = refl
first_bit zero zero m-is n-is = refl
first_bit zero (suc zero) m-is n-is = refl

pub in_first : (a b line : ℕ) → a < 2 ^ 64 → b < 2 ^ 64 → is_in (bit_and a (18446744073709551615 - b)) line ≡ (is_in a line && not (is_in b line))
in_first a b line a-small b-small = elim (cases_lt line 64) [
  | inl below ↦ is_one _ _ (bit_at_and a (18446744073709551615 - b) line ∙ ap (min (bit_at a line)) (bit_at_not w64 b line b-small below))
      ∙ first_bit (bit_at a line) (bit_at b line) (bit_at-lt a line) (bit_at-lt b line)
  | inr above ↦ in_both a (18446744073709551615 - b) line ∙ (ap (λ (x : Bool). x && is_in (18446744073709551615 - b) line) (above_none a line a-small above)
      ∙ sym (ap (λ (x : Bool). x && not (is_in b line)) (above_none a line a-small above)))
]

either_bit : (m n : ℕ) → m < 2 → n < 2 → (max m n == 1) ≡ ((m == 1) || (n == 1))
either_bit (suc (suc m)) n m-is n-is = absurd (omega arith)
either_bit m (suc (suc n)) m-is n-is = absurd (omega arith)
either_bit (suc zero) zero m-is n-is = refl
either_bit (suc zero) (suc zero) m-is n-is = refl
either_bit zero zero m-is n-is = refl
either_bit zero (suc zero) m-is n-is = refl

pub in_either : (a b line : ℕ) → is_in (bit_or a b) line ≡ (is_in a line || is_in b line)
in_either a b line = is_one _ _ (bit_at_or a b line) ∙ either_bit (bit_at a line) (bit_at b line) (bit_at-lt a line) (bit_at-lt b line)
