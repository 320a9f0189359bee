-- Numbers of a text.
use Rattle.std.specs.{Prelude.{ℕ, zero, suc, ◌+◌, List, [], ◌∷◌, map}, Int.Digits.{digits_of}}

-- a number is `0`, or its digits from the first that is not 0; there may be any number of them
unfoldable pub number : ℕ → List ℕ
number zero = 48 ∷ []
number (suc n) = map (λ digit. 48 + digit) (digits_of 10 (suc n))

-- a field that is a number: one space, and the number
unfoldable pub field : ℕ → List ℕ
field n = 32 ∷ number n
