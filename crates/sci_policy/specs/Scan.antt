-- What the walks over a node's lines compute.
use Rattle.std.specs.Prelude.{◌≡◌, ◌<◌, ℕ, nat_lt, Bool, true, Option, Some, None}

-- each answer of a closure, at a line below a bound, is this test's
abbrev pub IsTest : ℕ → (ℕ → Bool → Type 0) → (ℕ → Bool) → Type 0
IsTest bound answers tested = (line : ℕ) (answer : Bool) → line < bound → answers line answer → answer ≡ tested line

-- a serial is below that of what was found, a line and its operation's serial, if anything was
abbrev pub is_older_than : ℕ → Option (ℕ × ℕ) → Bool
is_older_than serial None = true
is_older_than serial (Some found) = nat_lt serial found.1
