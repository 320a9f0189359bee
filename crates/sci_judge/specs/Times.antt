-- Versions of what ended before something began.
use Rattle.std.specs.Prelude.{true, ◌≡◌, ◌≤◌, ◌<◌, ◌+◌, ℕ, List, Some, Contains, length, slice_get, slice_index_or}
use Rattle.sci_judge.specs.Access.{is_making}
use Rattle.sci_judge.specs.declared.{access.Access.{Access}, times.Ended.{Ended}}

-- each operation with a version has its end among these
abbrev pub HasEnds : List Access → List ℕ → List Ended → Type 0
HasEnds accesses versions ends =
    (i version : ℕ) (a : Access) → slice_get accesses i ≡ Some a → slice_get versions i ≡ Some version
    → Contains ends (record { end = a.end; version = version })

-- for each front of the ends a version that none there is above
pub record AreMost (ends : List Ended) (most : List ℕ) : Type 0 where
  pub long : length most ≡ length ends + 1
  pub each : (place count : ℕ) (d : Ended) → place < count → count ≤ length ends
      → (slice_index_or ends place d).version ≤ slice_index_or most count 0

-- an operation's version is behind those of what had ended before it began
abbrev pub IsBehind : List Ended → Access → (version : ℕ) → Type 0
IsBehind ends access version =
    (place : ℕ) (d : Ended) → place < length ends → (slice_index_or ends place d).end < access.begin
    → ((slice_index_or ends place d).version ≤ version) × (is_making access.kind ≡ true → (slice_index_or ends place d).version < version)
