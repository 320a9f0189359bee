-- Sums of a number for each number below a bound.
use Rattle.std.proofs.Common.{◌≡◌, ◌≤◌, ◌<◌, ◌+◌, ◌*◌, ℕ, zero, suc, arith, refl, subst, inl, inr}
use Rattle.std.proofs.Math.Nat.{mul-suc}
use Rattle.std.proofs.lemmas.Bool.{cases_lt}

-- the sum of a number for each below a bound
abbrev pub sum_to : (ℕ → ℕ) → ℕ → ℕ
sum_to f zero = 0
sum_to f (suc k) = sum_to f k + f k

pub sum_least : (f g : ℕ → ℕ) (k : ℕ) → ((i : ℕ) → i < k → f i ≤ g i) → sum_to f k ≤ sum_to g k
sum_least f g zero each = omega arith
sum_least f g (suc k) each =
    let rest = sum_least f g k (λ i lt. each i (omega (arith, lt))) in
    let last = each k (omega arith) in
    omega (arith, rest, last)

pub sum_less : (f g : ℕ → ℕ) (k i : ℕ) → ((j : ℕ) → j < k → f j ≤ g j) → i < k → f i < g i → sum_to f k < sum_to g k
sum_less f g zero i each lt less = absurd (omega (arith, lt))
sum_less f g (suc k) i each lt less = elim (cases_lt i k) [
  | inl low ↦
      let rest = sum_less f g k i (λ j below. each j (omega (arith, below))) low less in
      let last = each k (omega arith) in
      omega (arith, rest, last)
  | inr high ↦
      let same : i ≡ k = omega (arith, lt, high) in
      let here : f k < g k = subst (λ (j : ℕ). f j < g j) same less in
      let rest = sum_least f g k (λ j below. each j (omega (arith, below))) in
      omega (arith, rest, here)
]

pub sum_most : (f : ℕ → ℕ) (most k : ℕ) → ((i : ℕ) → f i ≤ most) → sum_to f k ≤ most * k
sum_most f most zero each = omega arith
sum_most f most (suc k) each =
    let rest = sum_most f most k each in
    let last = each k in
    let more = mul-suc most k in
    omega (arith, rest, last, more)

-- what is the same in the sum is the same in each part, if none is higher
pub sum_same : (f g : ℕ → ℕ) (k i : ℕ) → ((j : ℕ) → j < k → f j ≤ g j) → sum_to f k ≡ sum_to g k → i < k → f i ≡ g i
sum_same f g k i each same lt = elim (cases_lt (f i) (g i)) [
  | inl less ↦ (let falls = sum_less f g k i each lt less in absurd (omega (arith, falls, same)))
  | inr high ↦ (let low = each i lt in omega (arith, low, high))
]

pub sum_plus : (f g h : ℕ → ℕ) (k : ℕ) → ((i : ℕ) → h i ≡ f i + g i) → sum_to h k ≡ sum_to f k + sum_to g k
sum_plus f g h zero each = refl
sum_plus f g h (suc k) each = let rest = sum_plus f g h k each in let last = each k in omega (arith, rest, last)

pub sum_zero : (f : ℕ → ℕ) (k : ℕ) → ((i : ℕ) → f i ≡ 0) → sum_to f k ≡ 0
sum_zero f zero none = refl
sum_zero f (suc k) none = let rest = sum_zero f k none in let last = none k in omega (arith, rest, last)

pub sum_double : (f g : ℕ → ℕ) (k : ℕ) → ((i : ℕ) → i < k → f i ≤ 2 * g i) → sum_to f k ≤ 2 * sum_to g k
sum_double f g zero each = omega arith
sum_double f g (suc k) each =
    let rest = sum_double f g k (λ i lt. each i (omega (arith, lt))) in
    let last = each k (omega arith) in
    omega (arith, rest, last)
