-- A number that is written is read again, and what is read as a number is written so.
use Rattle.std.proofs.Common.{◌≡◌, ℕ, zero, suc, ◌+◌, ◌-◌, ◌*◌, ◌^◌, ◌<◌, ◌≤◌, Bool, true, false, cond, eqb, List, [], ◌∷◌, ◌++◌, get_or, map, Option}
use Rattle.std.proofs.Common.{Some, None, refl, sym, ap, ◌∙◌, append_assoc, arith, inl, inr, ◌⊎◌, length, ltb}
use Rattle.std.proofs.lemmas.{Bool.{cases_lt, cases_Bool, eqb-true, eqb-false}, Option.{cond_some, some_pair_parts}}
use Rattle.std.proofs.lemmas.{Bool.Decides.{nat_tests}, List.{map-append, length-map}}
use Rattle.std.proofs.lemmas.Int.Digits.{length-digits_of-le, digits_of_step, all_below_base_digits_of, first_digits_of, number_digits_of}
use Rattle.std.proofs.lemmas.Nat.{div-mul-add, mod-mul-add}
use Rattle.std.specs.List.{AllByRecursion}
use Rattle.std.specs.Int.Digits.{digits_of, number_from_digits, number_from_digits_after, AllBelowBase}
use Rattle.sci_text.specs.Number.{number, field}
use Rattle.sci_text.specs.Reading.{is_digit, fitting, with_digit, digits_read, number_read, field_read}

pub fitting_below : (n : ℕ) → n < 2 ^ 64 → fitting n ≡ Some n
fitting_below n h = grind (arith, nat_tests)

pub fitting_above : (n : ℕ) → 2 ^ 64 ≤ n → fitting n ≡ None
fitting_above n h = grind (arith, nat_tests)

pub fitting_some : (n m : ℕ) → fitting n ≡ Some m → n ≡ m
fitting_some n m e = (cond_some (ltb n (2 ^ 64)) n m e).1

with_digit-fitting : (n b : ℕ) → with_digit (fitting n) b ≡ fitting (n * 10 + (b - 48))
unfolding with_digit
with_digit-fitting n b = grind (arith, cases_lt, fitting_below, fitting_above)

is_digit-add : (d : ℕ) → d < 10 → is_digit (48 + d) ≡ true
is_digit-add d h = grind (arith, nat_tests)

abbrev pub glyph : ℕ → ℕ
glyph d = 48 + d

pub number_pos : (n : ℕ) → 0 < n → number n ≡ map glyph (digits_of 10 n)
unfolding number
number_pos zero h = absurd (omega arith)
number_pos (suc n) h = refl

-- one more digit at the end
pub number_step : (n d : ℕ) → 0 < n → d < 10 → number (n * 10 + d) ≡ number n ++ glyph d ∷ []
number_step n d pos small = grind (arith, digits_of_step, div-mul-add, mod-mul-add, number_pos, map-append)

-- ---- what is written is read

-- bytes that go on with no digit, so that a number before them ends there
abbrev pub Ends : List ℕ → Type 0
Ends [] = Unit {0}
Ends (b ∷ bytes) = is_digit b ≡ false

digits_end : (value : Option ℕ) (rest : List ℕ) → Ends rest → digits_read value rest ≡ (value, rest)
unfolding digits_read
digits_end value [] ends = refl
digits_end value (b ∷ rest) ends = rw ends refl

digits_again : (n : ℕ) (ds : List ℕ) (rest : List ℕ) → AllByRecursion (λ d. d < 10) ds → Ends rest
    → digits_read (fitting n) (map glyph ds ++ rest) ≡ (fitting (number_from_digits_after 10 n ds), rest)
unfolding digits_read
digits_again n [] rest small ends = digits_end (fitting n) rest ends
digits_again n (d ∷ ds) rest small ends =
    let e : with_digit (fitting n) (glyph d) ≡ fitting (n * 10 + d) = with_digit-fitting n (glyph d) ∙ ap fitting (omega arith) in
    rw (is_digit-add d small.0, e) (digits_again (n * 10 + d) ds rest small.1 ends)

first_again : (d : ℕ) (ds : List ℕ) (rest : List ℕ) → 0 < d → AllByRecursion (λ d. d < 10) (d ∷ ds) → Ends rest
    → number_read (map glyph (d ∷ ds) ++ rest) ≡ Some (fitting (number_from_digits 10 (d ∷ ds)), rest)
unfolding number_read
first_again d ds rest pos small ends =
    let not_zero : eqb (glyph d) 48 ≡ false = grind (arith, nat_tests) in
    let value : Some (glyph d - 48) ≡ fitting d = ap (λ (n : ℕ). Some n) (omega arith) ∙ sym (fitting_below d (omega arith)) in
    rw (not_zero, is_digit-add d small.0, value, digits_again d ds rest small.1 ends)
    (ap (λ (m : ℕ). Some (fitting (number_from_digits_after 10 m ds), rest)) (omega arith))

number_again_pos : (n : ℕ) (ds : List ℕ) (rest : List ℕ) → 0 < n → digits_of 10 n ≡ ds → Ends rest → number_read (number n ++ rest) ≡ Some (fitting n, rest)
number_again_pos n [] rest pos e ends =
    let first : 0 < get_or (digits_of 10 n) 0 0 = first_digits_of 10 n (omega arith) pos in
    absurd (omega (arith, rw e at first))
number_again_pos n (d ∷ ds) rest pos e ends =
    let first : 0 < get_or (digits_of 10 n) 0 0 = first_digits_of 10 n (omega arith) pos in
    let small : AllBelowBase 10 (d ∷ ds) = rw e at (all_below_base_digits_of 10 n (omega arith)) in
    let value : number_from_digits 10 (d ∷ ds) ≡ n = sym (ap (number_from_digits 10) e) ∙ number_digits_of 10 n (omega arith) in
    ap (λ (bytes : List ℕ). number_read (bytes ++ rest)) (number_pos n pos ∙ ap (map glyph) e)
    ∙ first_again d ds rest (rw e at first) small ends
    ∙ ap (λ (m : ℕ). Some (fitting m, rest)) value

number_zero : (rest : List ℕ) → number_read (number 0 ++ rest) ≡ Some (fitting 0, rest)
unfolding number number_read
number_zero rest = refl

-- a number is read as itself
pub number_again : (n : ℕ) (rest : List ℕ) → Ends rest → number_read (number n ++ rest) ≡ Some (fitting n, rest)
number_again zero rest ends = number_zero rest
number_again (suc n) rest ends = number_again_pos (suc n) (digits_of 10 (suc n)) rest (omega arith) refl ends

pub field_again : (n : ℕ) (rest : List ℕ) → Ends rest → field_read (field n ++ rest) ≡ Some (fitting n, rest)
unfolding field field_read
field_again n rest ends = number_again n rest ends

pub ends_field : (n : ℕ) (rest : List ℕ) → Ends (field n ++ rest)
unfolding field
ends_field n rest = refl

-- ---- what is read was written

-- the bytes begin with a number, which was seen as this value
abbrev pub IsNumberThen : List ℕ → Option ℕ → List ℕ → Type 0
IsNumberThen bytes value rest = (n : ℕ) × (bytes ≡ number n ++ rest) × (value ≡ fitting n)

digit_bounds : (b : ℕ) → is_digit b ≡ true → (48 ≤ b) × (b ≤ 57)
digit_bounds b h = (grind (arith, nat_tests), grind (arith, nat_tests))

-- the number, with the digits at the front of the bytes at its end
abbrev MoreDigits : ℕ → List ℕ → Option ℕ × List ℕ → Type 0
MoreDigits n bytes read = (m : ℕ) × (number n ++ bytes ≡ number m ++ read.1) × (read.0 ≡ fitting m)

digits_found : (n : ℕ) (bytes : List ℕ) → 0 < n → MoreDigits n bytes (digits_read (fitting n) bytes)
unfolding digits_read
digits_found n [] pos = (n, refl, refl)
digits_found n (b ∷ bytes) pos =
    elim (cases_Bool (is_digit b)) [
      | inl is ↦
          let bounds = digit_bounds b is in
          let next : ℕ = n * 10 + (b - 48) in
          let later : MoreDigits next bytes (digits_read (fitting next) bytes) = digits_found next bytes (omega arith) in
          let step : number next ≡ number n ++ glyph (b - 48) ∷ [] = number_step n (b - 48) pos (omega (arith, bounds.1)) in
          let same : glyph (b - 48) ≡ b = omega (arith, bounds.0) in
          let parts : number n ++ b ∷ bytes ≡ number next ++ bytes =
          ap (λ (c : ℕ). number n ++ c ∷ bytes) (sym same) ∙ sym (append_assoc (number n) (glyph (b - 48) ∷ []) bytes)
          ∙ ap (λ (front : List ℕ). front ++ bytes) (sym step) in
          rw (is, with_digit-fitting n b) (later.0, parts ∙ later.1, later.2)
      | inr not_digit ↦ rw not_digit (n, refl, refl)
    ]

one_digit : (b : ℕ) → 49 ≤ b → b ≤ 57 → number (b - 48) ≡ b ∷ []
one_digit b low high = grind (arith, digits_of_step, number_pos)

chosen : {A : Type 0} (b : Bool) (x y z : A) → cond b x y ≡ z → ((b ≡ true) × (x ≡ z)) ⊎ ((b ≡ false) × (y ≡ z))
chosen true x y z e = inl (refl, e)
chosen false x y z e = inr (refl, e)

number_found_zero : (b : ℕ) (bytes : List ℕ) (value : Option ℕ) (rest : List ℕ) → b ≡ 48
    → ◌≡◌ {A = Option (Option ℕ × List ℕ)} (Some (Some 0, bytes)) (Some (value, rest)) → IsNumberThen (b ∷ bytes) value rest
unfolding number
number_found_zero b bytes value rest zeros e = grind (arith, some_pair_parts)

number_found_digits : (b : ℕ) (bytes : List ℕ) (value : Option ℕ) (rest : List ℕ) → (b ≡ 48 → ⊥) → (48 ≤ b) × (b ≤ 57)
    → digits_read (Some (b - 48)) bytes ≡ (value, rest)
    → IsNumberThen (b ∷ bytes) value rest
number_found_digits b bytes value rest other bounds e =
    let low : 49 ≤ b = omega (arith, other, bounds.0) in
    let first : fitting (b - 48) ≡ Some (b - 48) = fitting_below (b - 48) (omega (arith, bounds.1)) in
    let found : MoreDigits (b - 48) bytes (value, rest) = rw (first, e) at (digits_found (b - 48) bytes (omega arith)) in
    (found.0, ap (λ (front : List ℕ). front ++ bytes) (sym (one_digit b low bounds.1)) ∙ found.1, found.2)

cond_some_else : {A : Type 0} (b : Bool) (o : Option A) (x : A) → cond b o None ≡ Some x → (b ≡ true) × (o ≡ Some x)
cond_some_else true o x e = (refl, e)
cond_some_else false o x e = absurd cc

-- what is read as a number is written so
pub number_found : (bytes : List ℕ) (value : Option ℕ) (rest : List ℕ) → number_read bytes ≡ Some (value, rest) → IsNumberThen bytes value rest
unfolding number_read
number_found [] value rest e = absurd cc
number_found (b ∷ bytes) value rest e = grind (arith, chosen, eqb, number_found_zero, eqb-true, cond_some, number_found_digits, eqb-false, digit_bounds)

pub field_found : (bytes : List ℕ) (value : Option ℕ) (rest : List ℕ) → field_read bytes ≡ Some (value, rest)
    → (n : ℕ) × (bytes ≡ field n ++ rest) × (value ≡ fitting n)
unfolding field field_read
field_found [] value rest e = absurd cc
field_found (b ∷ bytes) value rest e = grind (arith, cond_some_else, eqb, number_found, eqb-true)

-- ---- numbers are short

pub number_short : (n : ℕ) → n < 2 ^ 64 → length (number n) ≤ 20
unfolding number
number_short zero h = omega arith
number_short (suc n) h = omega (arith, length-map (digits_of 10 (suc n)) (λ digit. 48 + digit), length-digits_of-le 10 20 (suc n) (omega arith) (omega arith))

pub field_short : (n : ℕ) → n < 2 ^ 64 → length (field n) ≤ 21
unfolding field
field_short n h = omega (arith, number_short n h)
