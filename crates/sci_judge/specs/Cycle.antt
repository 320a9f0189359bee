-- What shows that no one order of all operations explains a trace, whatever their versions are.
use Rattle.std.specs.Prelude.{◌≡◌, ◌<◌, ℕ, All, Bool, true, false, List, [], ◌∷◌, None}
use Rattle.std.specs.List.Sorted.{IsNonDecreasingBy}
use Rattle.sci_history.specs.Sequential.{IsSequentiallyConsistent}
use Rattle.sci_judge.specs.Access.{is_writing, left_by}
use Rattle.sci_judge.specs.declared.{access.Access.{Access}, cycle.Link.{Link}, cycle.Reason.{Reason}, judging.SiteVersions.{SiteVersions}}
use Rattle.sci_judge.specs.declared.{logging.Log.{Log}, trace.Trace.{Trace}}
use Rattle.sci_judge.specs.declared.cycle.Reason.TheVariants as reason
use Rattle.sci_judge.specs.{Judgement.{IsExplainedAt, at_address, last_at}, Logged.{IsLogOf}, Witness.{AreWrittenOnce, IsAt, IsPath}}

-- two operations at one address at which each word is written at most once
pub record AreAtOneAddress (trace : Trace) (y x : Access) : Type 0 where
  pub same : y.address ≡ x.address
  pub once : AreWrittenOnce (at_address y.address trace.accesses.items)

-- The operation at one place stands before that at another, in every order that explains the trace: it comes before it in the
-- order of their processor; it wrote the word that the other one finds and leaves; or by these steps what leaves its word stands
-- before what leaves the other's.
abbrev pub StandsFirst : (timed : Bool) → Trace → Reason → (here there : ℕ) → (y x : Access) → Type 0
StandsFirst timed trace reason.Program here there y x = (y.processor ≡ x.processor) × (here < there)
StandsFirst timed trace reason.ReadsFrom here there y x =
    AreAtOneAddress trace y x × (is_writing y.kind ≡ true) × (is_writing x.kind ≡ false) × (left_by y.kind ≡ left_by x.kind)
StandsFirst timed trace (reason.Words steps) here there y x =
    AreAtOneAddress trace y x
    × IsPath timed (at_address y.address trace.accesses.items) (last_at y.address trace) None steps.items
    (record { low = left_by y.kind; high = left_by x.kind })

-- an operation stands before that of the first of these links, each of them before that of the next one, and the last one before
-- the operation at which they end
abbrev pub AreLinked : (timed : Bool) → Trace → Link → (y : Access) → List Link → (to : ℕ) → (x : Access) → Type 0
AreLinked timed trace link y [] to x = StandsFirst timed trace link.reason link.place to y x
AreLinked timed trace link y (next ∷ links) to x =
    (z : Access) × IsAt trace.accesses.items next.place z × StandsFirst timed trace link.reason link.place next.place y z
    × AreLinked timed trace next z links to x

-- an operation stands before itself
abbrev pub IsCycle : (timed : Bool) → Trace → List Link → Type 0
IsCycle timed trace [] = ⊥
IsCycle timed trace (link ∷ links) = (y : Access) × IsAt trace.accesses.items link.place y × AreLinked timed trace link y links link.place y

-- no log of the trace, by whatever versions explain the operations at its addresses, is sequentially consistent
abbrev pub HasNoOrderAtAll : (timed : Bool) → Trace → Type 0
HasNoOrderAtAll timed trace =
    (sites : List SiteVersions) (log : Log) → All (IsExplainedAt timed trace) sites → IsLogOf trace sites log
    → IsSequentiallyConsistent log.logs log.last.value → ⊥

-- ---- inside

-- the operation of a link stands before the one at a place
abbrev pub IsFirst : (timed : Bool) → Trace → Link → (place : ℕ) → Type 0
IsFirst timed trace link place =
    (y : Access) × (x : Access) × IsAt trace.accesses.items link.place y × IsAt trace.accesses.items place x
    × StandsFirst timed trace link.reason link.place place y x

-- the operations of a trace by their addresses, those at an address in their order
abbrev pub AreByAddress : Trace → List Access → Type 0
AreByAddress trace sorted =
    IsNonDecreasingBy (λ access. access.address) sorted
    × ((address : ℕ) → at_address address sorted ≡ at_address address trace.accesses.items)
