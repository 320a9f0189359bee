-- How many steps on words a turn may still make.
use Rattle.std.specs.Prelude.{◌≡◌, ◌≤◌, ◌+◌, ℕ, Option, Some, None, is_none, unwrap_or}

-- this many steps fewer, or still no limit
abbrev pub HasLess : ℕ → Option ℕ → Option ℕ → Type 0
HasLess steps None None = Unit {0}
HasLess steps (Some old) (Some new) = new + steps ≡ old
HasLess steps _ _ = ⊥

-- no more than before, or still no limit
pub record HasNoMore (old new : Option ℕ) : Type 0 where
  pub limit : is_none new ≡ is_none old
  pub fewer : unwrap_or new 0 ≤ unwrap_or old 0
