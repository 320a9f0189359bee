-- What an operation of a trace shows of its word.
use Rattle.std.specs.Prelude.{ℕ, ◌<◌, ◌==◌, not, Bool, true, false, List, All}
use Rattle.sci_words.specs.declared.limits.TheConstants.{MAX_NODES}
use Rattle.sci_judge.specs.declared.access.{Access.{Access}, Kind.{Kind, TheVariants.{Load, Store, Atomic}}}

-- the first word that it shows: what it read, or of a store what it wrote
abbrev pub found_by : Kind → ℕ
found_by (Load read) = read
found_by (Store wrote) = wrote
found_by (Atomic read wrote) = read

-- the word that it leaves
abbrev pub left_by : Kind → ℕ
left_by (Load read) = read
left_by (Store wrote) = wrote
left_by (Atomic read wrote) = wrote

-- whether it puts its word there: an atomic that wrote what it read doesn't
abbrev pub is_writing : Kind → Bool
is_writing (Load read) = false
is_writing (Store wrote) = true
is_writing (Atomic read wrote) = not (read == wrote)

-- whether it makes a version
abbrev pub is_making : Kind → Bool
is_making (Load read) = false
is_making (Store wrote) = true
is_making (Atomic read wrote) = true

-- each operation is of one of sixteen processors
abbrev pub AreKnown : List Access → Type 0
AreKnown accesses = All (λ access. access.processor < MAX_NODES) accesses
