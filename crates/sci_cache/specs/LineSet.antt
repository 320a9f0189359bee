-- Sets of lines, each a number with a bit for each line.
use Rattle.std.specs.{Prelude.{ℕ, ◌<◌, ◌==◌, Bool, Option, Some, None}, Int.{bit_at}}

-- whether a line is in a set
abbrev pub is_in : ℕ → ℕ → Bool
is_in set line = bit_at set line == 1

-- whether a line is before another, if there is another
abbrev pub IsBefore : ℕ → Option ℕ → Type 0
IsBefore line None = Unit {0}
IsBefore line (Some other) = line < other
