-- Whether other versions explain operations as well.
use Rattle.std.specs.Prelude.{◌≡◌, ◌≢◌, ◌<◌, ◌≤◌, ◌⊎◌, ◌-◌, ℕ, zero, suc, Bool, true, false, List, length, Option, Some, None, slice_get}
use Rattle.sci_judge.specs.declared.{access.Access.{Access}, forcing.Maker.{Maker}, witness.Step.{Step}}
use Rattle.sci_judge.specs.Access.{is_making, is_writing, left_by}
use Rattle.sci_judge.specs.{Stamped.{IsExplainedBy}, Witness.{ComesBefore, IsAt, IsPath}}

-- no other versions explain the operations
abbrev pub AreForced : (timed : Bool) → List Access → (last : Option ℕ) → (versions : List ℕ) → Type 0
AreForced timed accesses last versions =
    (others : List ℕ) → IsExplainedBy timed accesses last others → (i : ℕ) → i < length accesses → slice_get others i ≡ slice_get versions i

-- other versions do, and some operation has another one there
abbrev pub AreFree : (timed : Bool) → List Access → (last : Option ℕ) → (versions others : List ℕ) → Type 0
AreFree timed accesses last versions others =
    IsExplainedBy timed accesses last others × (i : ℕ) × (i < length accesses) × (slice_get others i ≢ slice_get versions i)

-- ---- what shows that there are no others: the makers in the order of their versions

-- a maker in this order, with its place among the operations
abbrev pub IsMaker : List Access → List Maker → (index place : ℕ) → Access → Type 0
IsMaker accesses makers index place access =
    (maker : Maker) × (slice_get makers index ≡ Some maker) × (maker.place ≡ place) × IsAt accesses place access

-- the word that a maker in this order finds: what the one before it leaves, or 0
abbrev pub IsWordBefore : List Access → List Maker → (index word : ℕ) → Type 0
IsWordBefore accesses makers zero word = word ≡ 0
IsWordBefore accesses makers (suc index) word =
    (place : ℕ) × (access : Access) × IsMaker accesses makers index place access × (left_by access.kind ≡ word)

-- all operations that leave the one word stand before all that leave the other
abbrev pub AreParted : (timed : Bool) → List Access → (last : Option ℕ) → (low high : ℕ) → Type 0
AreParted timed accesses last low high = (steps : List Step) × IsPath timed accesses last None steps (record { low = low; high = high })

-- a maker that leaves the word of the one before it has to stand behind that one, which comes before it or alone writes the word
abbrev pub IsBehindPrevious : (timed : Bool) → List Access → List Maker → (index place : ℕ) → Access → Type 0
IsBehindPrevious timed accesses makers zero place access = Unit {0}
IsBehindPrevious timed accesses makers (suc index) place access =
    (before : ℕ) × (other : Access) × IsMaker accesses makers index before other
    × (((is_writing other.kind ≡ true) × (is_writing access.kind ≡ false)) ⊎ ComesBefore timed before place other access)

-- It has its version by its place in the order, and stands behind the one before it: their words are parted, or are the same and
-- the two operations stand in this order.
abbrev pub IsRanked : (timed : Bool) → List Access → (last : Option ℕ) → (versions : List ℕ) → List Maker → (index : ℕ) → Type 0
IsRanked timed accesses last versions makers index =
    (place : ℕ) × (access : Access) × (word : ℕ) × IsMaker accesses makers index place access × IsWordBefore accesses makers index word
    × (is_making access.kind ≡ true) × (slice_get versions place ≡ Some (suc index))
    × (((left_by access.kind ≡ word) × IsBehindPrevious timed accesses makers index place access)
    ⊎ AreParted timed accesses last word (left_by access.kind))

-- a load stands behind the maker whose version it has
abbrev pub IsAbove : (timed : Bool) → List Access → List Maker → (place version : ℕ) → Access → Type 0
IsAbove timed accesses makers place zero access = Unit {0}
IsAbove timed accesses makers place (suc index) access =
    (there : ℕ) × (other : Access) × IsMaker accesses makers index there other
    × (((is_writing other.kind ≡ true) × (left_by other.kind ≡ left_by access.kind)) ⊎ ComesBefore timed there place other access)

-- a load stands before the next maker, if there is one
abbrev pub IsUnder : (timed : Bool) → List Access → List Maker → (place version : ℕ) → Access → Type 0
IsUnder timed accesses makers place version access =
    (length makers ≤ version)
    ⊎ ((there : ℕ) × (other : Access) × (word : ℕ) × IsMaker accesses makers version there other × IsWordBefore accesses makers version word
    × (left_by access.kind ≡ word) × ((left_by other.kind ≢ word) ⊎ ComesBefore timed place there access other))

-- A maker is the one of its version. A load stands between two of them.
pub record IsHeld (timed : Bool) (accesses : List Access) (makers : List Maker) (place version : ℕ) (access : Access) : Type 0 where
  pub maker : is_making access.kind ≡ true → (1 ≤ version) × (there : Access) × IsMaker accesses makers (version - 1) place there
  pub load : is_making access.kind ≡ false → IsAbove timed accesses makers place version access × IsUnder timed accesses makers place version access

-- each operation with its version
abbrev pub AreHeld : (timed : Bool) → List Access → (versions : List ℕ) → List Maker → Type 0
AreHeld timed accesses versions makers =
    (place : ℕ) (access : Access) → IsAt accesses place access
    → (version : ℕ) × (slice_get versions place ≡ Some version) × IsHeld timed accesses makers place version access
