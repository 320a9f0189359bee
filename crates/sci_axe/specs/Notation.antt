-- The words and numbers of Axe's notation, from left to right: what stands at the front of bytes, behind blanks, and the
-- bytes after it.
use Rattle.std.specs.Prelude.{ℕ, ◌+◌, ◌-◌, ◌*◌, Bool, true, ◌==◌, ◌&&◌, ◌||◌, nat_le, nat_lt, if◌then◌else◌, List, [], ◌∷◌, Option, Some, None, codes}
use Rattle.sci_text.specs.Reading.{after, fitting}

-- a space, a tab, or a carriage return
abbrev pub is_blank : ℕ → Bool
is_blank b = (b == 32) || ((b == 9) || (b == 13))

unfoldable pub behind_blanks : List ℕ → List ℕ
behind_blanks [] = []
behind_blanks (b ∷ bytes) = if is_blank b then behind_blanks bytes else b ∷ bytes

-- bytes that are none, or a comment
abbrev pub are_over : List ℕ → Bool
are_over [] = true
are_over (b ∷ bytes) = b == 35

-- only blanks are left, and a comment
unfoldable pub is_end : List ℕ → Bool
is_end bytes = are_over (behind_blanks bytes)

-- the bytes after a mark
unfoldable pub behind : List ℕ → List ℕ → Option (List ℕ)
behind mark bytes = after mark (behind_blanks bytes)

-- ---- numbers

-- the value of a digit, and a number above all of them for what is none
unfoldable pub digit_value : ℕ → ℕ
digit_value b =
    if nat_le 48 b && nat_le b 57 then b - 48
    else (if nat_le 97 b && nat_le b 102 then b - 87 else (if nat_le 65 b && nat_le b 70 then b - 55 else 255))

-- the number with one more digit, or None if it is 2^64 or more
unfoldable pub with_digit : (base : ℕ) → Option ℕ → ℕ → Option ℕ
with_digit base None digit = None
with_digit base (Some n) digit = fitting (n * base + digit)

unfoldable pub digits_read : (base : ℕ) → Option ℕ → List ℕ → Option ℕ × List ℕ
digits_read base number [] = (number, [])
digits_read base number (b ∷ bytes) =
    if nat_lt (digit_value b) base then digits_read base (with_digit base number (digit_value b)) bytes else (number, b ∷ bytes)

-- one digit at least
unfoldable pub based_read : (base : ℕ) → List ℕ → Option (Option ℕ × List ℕ)
based_read base [] = None
based_read base (b ∷ bytes) = if nat_lt (digit_value b) base then Some (digits_read base (Some (digit_value b)) bytes) else None

-- hexadecimal digits behind `0x`, or decimal ones
abbrev pub number_by : List ℕ → Option (List ℕ) → Option (Option ℕ × List ℕ)
number_by bytes None = based_read 10 bytes
number_by bytes (Some digits) = based_read 16 digits

unfoldable pub number_read : List ℕ → Option (Option ℕ × List ℕ)
number_read bytes = number_by (behind_blanks bytes) (behind (codes "0x") bytes)
