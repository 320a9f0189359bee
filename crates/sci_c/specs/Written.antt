-- What is written over the first items of an array.
use Rattle.std.specs.Prelude.{◌≡◌, ℕ, ◌++◌, List, drop, length, take}

-- the items stand there, and are this many
pub record StandOver {A : Type 0} (items old new : List A) (used : ℕ) : Type 0 where
  pub written : new ≡ items ++ drop used old
  pub length_is : used ≡ length items

-- the items stand over the first old ones, as many as there is room for
abbrev pub first_over : {A : Type 0} → (items old : List A) → List A
first_over items old = take (length old) items ++ drop (length items) old
