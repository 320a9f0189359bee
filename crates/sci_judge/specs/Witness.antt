-- What shows that operations at one address are not coherent.
use Rattle.std.specs.Prelude.{◌≡◌, ◌≢◌, ◌<◌, ◌⊎◌, ◌==◌, ◌&&◌, ℕ, Bool, true, false, List, [], ◌∷◌, Option, Some, None, slice_get}
use Rattle.std.specs.List.{list_any}
use Rattle.sci_judge.specs.declared.access.{Access.{Access}, Kind.{TheVariants.{Store, Atomic}}}
use Rattle.sci_judge.specs.declared.witness.{Claim.{Claim}, Step.{Step, TheVariants.{Follows, Swaps, Falls, Rises, Starts, Ends}}}
use Rattle.sci_judge.specs.declared.witness.Witness.{Witness, TheVariants.{Unwritten, UnwrittenLast, Early, Circle, Round}}
use Rattle.sci_judge.specs.Access.{found_by, is_making, is_writing, left_by}

-- the operation at a place of the trace
abbrev pub IsAt : List Access → ℕ → Access → Type 0
IsAt accesses place access = slice_get accesses place ≡ Some access

-- each word is written at most once, and never 0
pub record AreWrittenOnce (accesses : List Access) : Type 0 where
  pub once : (i j : ℕ) (x y : Access) → IsAt accesses i x → IsAt accesses j y → is_writing x.kind ≡ true → is_writing y.kind ≡ true
      → left_by x.kind ≡ left_by y.kind → i ≡ j
  pub never_zero : (i : ℕ) (x : Access) → IsAt accesses i x → is_writing x.kind ≡ true → left_by x.kind ≢ 0

-- an operation writes this word
abbrev pub writes : ℕ → Access → Bool
writes word access = is_writing access.kind && (left_by access.kind == word)

-- no operation writes this word
abbrev pub IsUnwritten : List Access → ℕ → Type 0
IsUnwritten accesses word = (word ≢ 0) × (list_any (writes word) accesses ≡ false)

-- The first operation comes before the second: in the order of their processor, or since it ended before the other began.
abbrev pub ComesBefore : (timed : Bool) (earlier later : ℕ) (y x : Access) → Type 0
ComesBefore timed earlier later y x = ((y.processor ≡ x.processor) × (earlier < later)) ⊎ ((timed ≡ true) × (y.end < x.begin))

-- A claim says that all operations that leave one word stand before all that leave another. It goes on from a word to another
-- one that comes behind it.
abbrev pub ExtendsClaim : Option Claim → (word next : ℕ) → Claim → Type 0
ExtendsClaim None word next to = (word ≢ next) × (to ≡ record { low = word; high = next })
ExtendsClaim (Some from) word next to = (word ≢ next) × (from.high ≡ word) × (to ≡ record { low = from.low; high = next })

-- what a claim becomes by a step
abbrev pub Leads : (timed : Bool) → List Access → (last : Option ℕ) → Step → Option Claim → Claim → Type 0
Leads timed accesses last (Follows earlier later) from to =
    (y : Access) × (x : Access) × IsAt accesses earlier y × IsAt accesses later x × ComesBefore timed earlier later y x
    × ExtendsClaim from (left_by y.kind) (found_by x.kind) to
Leads timed accesses last (Swaps place) from to =
    (z : Access) × (read : ℕ) × (wrote : ℕ) × IsAt accesses place z × (z.kind ≡ Atomic read wrote) × ExtendsClaim from read wrote to
Leads timed accesses last (Falls place) from to =
    (z : Access) × (read : ℕ) × (wrote : ℕ) × (claim : Claim) × IsAt accesses place z × (z.kind ≡ Atomic read wrote) × (from ≡ Some claim)
    × (claim.high ≡ wrote) × (wrote ≢ read) × (claim.low ≢ read) × (to ≡ record { low = claim.low; high = read })
Leads timed accesses last (Rises place) from to =
    (z : Access) × (read : ℕ) × (wrote : ℕ) × (claim : Claim) × IsAt accesses place z × (z.kind ≡ Atomic read wrote) × (from ≡ Some claim)
    × (claim.low ≡ read) × (wrote ≢ read) × (claim.high ≢ wrote) × (to ≡ record { low = wrote; high = claim.high })
Leads timed accesses last (Starts place) from to = (x : Access) × IsAt accesses place x × ExtendsClaim from 0 (left_by x.kind) to
Leads timed accesses last (Ends place) from to =
    (x : Access) × (word : ℕ) × IsAt accesses place x × (last ≡ Some word) × ExtendsClaim from (left_by x.kind) word to

-- steps lead from one claim to another
abbrev pub IsPath : (timed : Bool) → List Access → (last : Option ℕ) → Option Claim → List Step → Claim → Type 0
IsPath timed accesses last from [] end = from ≡ Some end
IsPath timed accesses last from (step ∷ steps) end =
    (to : Claim) × Leads timed accesses last step from to × IsPath timed accesses last (Some to) steps end

-- steps lead to a word that would stand before itself
abbrev pub IsCircle : (timed : Bool) → List Access → (last : Option ℕ) → List Step → Type 0
IsCircle timed accesses last steps = (end : Claim) × IsPath timed accesses last None steps end × (end.low ≡ end.high)

-- the first operation leaves the word that the second one, a store, writes later
abbrev pub IsEarly : (timed : Bool) → List Access → (reader writer : ℕ) → Type 0
IsEarly timed accesses reader writer =
    (y : Access) × (x : Access) × (word : ℕ) × IsAt accesses reader y × IsAt accesses writer x × (left_by y.kind ≡ word) × (x.kind ≡ Store word)
    × ComesBefore timed reader writer y x

-- The one operation comes before the first of these, each of them before the next one, and the last one before the other operation.
abbrev pub AreInTurn : (timed : Bool) → List Access → (from : ℕ) → (y : Access) → (through : List ℕ) → (to : ℕ) → (x : Access) → Type 0
AreInTurn timed accesses from y [] to x = ComesBefore timed from to y x
AreInTurn timed accesses from y (next ∷ through) to x =
    (z : Access) × IsAt accesses next z × ComesBefore timed from next y z × AreInTurn timed accesses next z through to x

-- an operation that makes a version comes before itself
abbrev pub IsRound : (timed : Bool) → List Access → (maker : ℕ) → (through : List ℕ) → Type 0
IsRound timed accesses maker through =
    (z : Access) × IsAt accesses maker z × (is_making z.kind ≡ true) × AreInTurn timed accesses maker z through maker z

-- what a witness says of the operations at one address and of the last word there
abbrev pub IsWitness : (timed : Bool) → List Access → (last : Option ℕ) → Witness → Type 0
IsWitness timed accesses last (Unwritten reader) = (x : Access) × IsAt accesses reader x × IsUnwritten accesses (found_by x.kind)
IsWitness timed accesses last UnwrittenLast = (word : ℕ) × (last ≡ Some word) × IsUnwritten accesses word
IsWitness timed accesses last (Early reader writer) = AreWrittenOnce accesses × IsEarly timed accesses reader writer
IsWitness timed accesses last (Circle steps) = AreWrittenOnce accesses × IsCircle timed accesses last steps.items
IsWitness timed accesses last (Round maker through) = IsRound timed accesses maker through.items
