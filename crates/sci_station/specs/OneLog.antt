-- What one log says by itself.
use Rattle.std.specs.Prelude.{◌≤◌, ◌<◌, IsTrue, ℕ, List, filter, AllPairs}
use Rattle.sci_history.specs.{declared.entry.Entry.{Entry}, Placed.{is_making, is_on_line}}

-- a later entry on a line: its serial is above, its version not below, and above if it is of a maker
pub record ComesLater (x y : Entry) : Type 0 where
  pub serial : x.serial < y.serial
  pub version : x.version ≤ y.version
  pub maker : IsTrue (is_making y) → x.version < y.version

-- on each line each entry comes later than those before it
abbrev pub IsOneLog : List Entry → Type 0
IsOneLog log = (line : ℕ) → AllPairs ComesLater (filter (is_on_line line) log)
