-- What a generator draws. Its state is the four words of xoshiro256++, as rand_xoshiro defines them.
use Rattle.std.specs.Prelude.{◌≡◌, ℕ, ◌-◌, ◌*◌, ◌/◌, ◌%◌, ◌^◌, ◌==◌, List, [], ◌∷◌, Some, if◌then◌else◌, slice_get}
use Rattle.rand_xoshiro.specs.{SplitMix64.{splitmix_seed}, Xoshiro256.{of_seed, plus_plus}}
use Rattle.sci_words.specs.declared.operation.Act.{Act, TheVariants.{Load, Store, Lock}}
use Rattle.sci_words.specs.declared.operation.LockOp.TheVariants.{MaskSwap, CompareSwap, FetchAdd, BoundedAdd, WrapAdd}

-- the state of a seed
unfoldable pub seeded : ℕ → List ℕ
seeded seed = of_seed (splitmix_seed 32 seed)

-- the number below a bound that a state gives: the high 32 bits of its word, times the bound, divided by 2^32
unfoldable pub drawn : ℕ → List ℕ → ℕ
drawn bound state = (plus_plus state).0 / 2 ^ 32 * bound / 2 ^ 32

-- the state after one number
unfoldable pub after : List ℕ → List ℕ
after state = (plus_plus state).1

-- the word that a state gives: the greatest one or 0 to 3
abbrev pub word_of : List ℕ → ℕ
word_of state = if drawn 12 state == 0 then 2 ^ 64 - 1 else drawn 12 state % 4

-- what operations do with two words, in the order of the numbers that they are drawn by
abbrev pub acts : ℕ → ℕ → List Act
acts arg datum =
    Lock (MaskSwap arg datum) ∷ Lock (CompareSwap arg datum) ∷ Lock (FetchAdd datum) ∷ Lock (BoundedAdd arg datum) ∷ Lock (WrapAdd arg datum)
    ∷ Store datum ∷ Store datum ∷ Load ∷ Load ∷ Load ∷ []

-- what an operation does that a state gives: two words are drawn, and then which of the ten
abbrev pub IsActOf : List ℕ → Act → Type 0
IsActOf state act =
    slice_get (acts (word_of state) (word_of (after state))) (drawn 10 (after (after state))) ≡ Some act
