-- The input of a command.
use Rattle.std.specs.Prelude.{◌≡◌, ℕ, Bool, false, List, Option}
use Rattle.sci_text.specs.FirstFault.{AreRead}

-- no read failed, and the bytes that were read are as said
abbrev pub IsReadAs : Option (List ℕ) → Bool → (List ℕ → Type 0) → Type 0
IsReadAs known failed is_so = (failed ≡ false) × ((bytes : List ℕ) × AreRead known bytes × is_so bytes)
