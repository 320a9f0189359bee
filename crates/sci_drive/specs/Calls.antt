-- What is asked of a gate, and what is reported to it, while a worker is driven.
use Rattle.std.specs.Prelude.{◌≡◌, ◌⊎◌, ◌<◌, ◌≤◌, ◌+◌, ◌&&◌, ℕ, All, Bool, true, false, not, List, [], ◌∷◌, ◌++◌, Option, Some, None, count_by}
use Rattle.std.specs.Prelude.{if◌then◌else◌, map}
use Rattle.std.specs.List.{Contains, filter_map}
use Rattle.sci_history.specs.declared.entry.Entry.{Entry}
use Rattle.sci_core.specs.Node.{NodeOf}
use Rattle.sci_drive.specs.Driving.{DriverOf}

-- a call of a gate, with its answer
pub data Call : Type 0 where
  MayIssue : (index : ℕ) (may : Bool) → Call
  Answered : (entry : Entry) → Call
  Done : Call
  AllDone : (all : Bool) → Call
  Rest : Call

-- the entry that a call reports
abbrev pub entry_told : Call → Option Entry
entry_told (Answered entry) = Some entry
entry_told _ = None

-- the entries that are reported to the gate, in the order of the calls
abbrev pub told : List Call → List Entry
told calls = filter_map entry_told calls

abbrev pub is_done : Call → Bool
is_done Done = true
is_done _ = false

-- how often the gate hears that the whole script is answered
abbrev pub times_done : List Call → ℕ
times_done calls = count_by is_done calls

-- how often it was, before a driver goes on
abbrev pub times_before : DriverOf → ℕ
times_before driver = if driver.was_done then 1 else 0

abbrev pub is_rest : Call → Bool
is_rest Rest = true
is_rest _ = false

-- how often the gate rests
abbrev pub times_rested : List Call → ℕ
times_rested calls = count_by is_rest calls

-- asked whether an operation may be submitted, the gate says that it may
abbrev pub Allows : Call → Type 0
Allows (MayIssue index may) = may ≡ true
Allows _ = Unit {0}

-- each operation that the gate is asked about may be submitted
abbrev pub AllowAll : List Call → Type 0
AllowAll calls = All Allows calls

-- what a gate that is always open answers: each operation may be submitted, and all are done
abbrev pub IsOpen : Call → Type 0
IsOpen (MayIssue index may) = may ≡ true
IsOpen (AllDone all) = all ≡ true
IsOpen _ = Unit {0}

-- an entry is reported only after its operation was allowed, by one of these calls or before them
abbrev pub AreAllowed : ℕ → List Call → Type 0
AreAllowed before calls = (front back : List Call) (entry : Entry) → calls ≡ front ++ Answered entry ∷ back
    → (entry.serial < before) ⊎ Contains front (MayIssue entry.serial true)

-- no entry is reported after the gate has heard that the whole script is answered
abbrev pub EndWithDone : List Call → Type 0
EndWithDone calls = (front back : List Call) → calls ≡ front ++ Done ∷ back → told back ≡ []

-- the last call asked whether all are done, and they are
abbrev pub EndWithAllDone : List Call → Type 0
EndWithAllDone calls = (front : List Call) × (calls ≡ front ++ AllDone true ∷ [])

-- The calls that a driver makes while it drives a node from one moment to another: it reports each entry once, in the order
-- of the log; it submits what was allowed, and nothing else; and it reports once that the script is answered, as the last.
pub record AreCalls (old new : DriverOf) (before after : NodeOf) (calls : List Call) : Type 0 where
  pub told_all : after.log ≡ before.log ++ told calls
  pub submitted : (index : ℕ) → old.next ≤ index → index < new.next → Contains calls (MayIssue index true)
  pub allowed : AreAllowed old.next calls
  pub once : times_done calls + times_before old ≡ times_before new
  pub last : EndWithDone calls
  pub quiet : old.was_done ≡ true → told calls ≡ []

-- the call that reports the end of the script, if the driver reports it now: it hadn't before, and has then
abbrev pub end_told : Bool → Bool → List Call
end_told was_done is_done = if is_done && not was_done then Done ∷ [] else []

-- the calls that report these entries, and then the end of the script, if it comes now
abbrev pub reports : List Entry → Bool → Bool → List Call
reports entries was_done is_done = map Answered entries ++ end_told was_done is_done

-- the gate has had just these calls, and they are those of a driver
abbrev pub HasHeard : {G : Type 0} → (G → List Call → G → Type 0) → G → G → DriverOf → DriverOf → NodeOf → NodeOf → List Call → Type 0
HasHeard hears gate later old new before after calls = hears gate calls later × AreCalls old new before after calls

-- The gate, whose calls lead it from one moment to another as `hears` says, has had such calls.
pub record IsHeard {G : Type 0} (hears : G → List Call → G → Type 0) (gate later : G) (old new : DriverOf) (before after : NodeOf) : Type 0 where
  pub calls : List Call
  pub heard : hears gate calls later
  pub are : AreCalls old new before after calls

-- The calls of a whole run, from which a node has come with its log: the gate hears each of its entries once, in the order
-- of the log; what was submitted was allowed; and the gate hears at most once that the script is answered, as the last.
pub record AreCallsOf (node : NodeOf) (calls : List Call) : Type 0 where
  pub told_all : node.log ≡ told calls
  pub submitted : (index : ℕ) → index < node.issued → Contains calls (MayIssue index true)
  pub allowed : AreAllowed 0 calls
  pub once : times_done calls ≤ 1
  pub last : EndWithDone calls
