-- What a driver does in a round: it submits and performs, and its worker takes a turn.
use Rattle.std.specs.Prelude.{◌≡◌, ◌<◌, ◌≤◌, ◌↔◌, ◌+◌, ℕ, zero, suc, Bool, true, false, List, [], ◌∷◌, ◌++◌, length, map, slice_get}
use Rattle.std.specs.Prelude.{Option, Some, None, IsSome, Result, Ok, Err, IfOk, IsErr}
use Rattle.std.specs.{List.{Contains}, declared.alloc.AllocError.{AllocError}}
use Rattle.sci_words.specs.declared.operation.Op.{Op}
use Rattle.sci_history.specs.declared.entry.Entry.{Entry}
use Rattle.sci_core.specs.{Node.{NodeOf, node_performing}, Obstacles.{submit_fault}, Work.{IsIssued, IsLogged}}
use Rattle.sci_policy.specs.{Deeds.{Deed, Issues, Performs, Turns}, Worker.{HasSameWork, IsNodeTurn}}
use Rattle.sci_drive.specs.declared.driver.{Issuing.{Issuing, TheVariants.{Ahead, InOrder}}, Round.{Round}}
use Rattle.sci_drive.specs.{Calls.{Call, IsHeard, MayIssue, reports}, Driving.{DriverOf, IsAnswered}, Resting.{AreBehind}}

-- ---- submitted

-- how many operations are pending at most
abbrev pub most_pending : Issuing → ℕ
most_pending Ahead = 4
most_pending InOrder = 1

-- the operation that is submitted next, if one is left
abbrev pub next_op : DriverOf → Option Op
next_op driver = slice_get driver.script driver.next

-- the driver after one more was submitted
abbrev pub with_submitted : DriverOf → Op → DriverOf
with_submitted driver op = record driver { next = driver.next + 1; pending = driver.pending ++ op.line ∷ [] }

-- Why nothing can be submitted, and the calls that are made then: as many are pending as may be, all were submitted, one is
-- pending on the line of the next, the gate was asked and doesn't allow it, or it does and the worker refuses it.
pub data IsHeldBack (driver : DriverOf) (node : NodeOf) (calls : List Call) : Type 0 where
  NoRoom : most_pending driver.issuing ≤ length driver.pending → calls ≡ [] → IsHeldBack driver node calls
  AllSubmitted : next_op driver ≡ None → calls ≡ [] → IsHeldBack driver node calls
  LineIsTaken : (op : Op) → next_op driver ≡ Some op → Contains driver.pending op.line → calls ≡ [] → IsHeldBack driver node calls
  NotAllowed : calls ≡ MayIssue driver.next false ∷ [] → IsHeldBack driver node calls
  Refused : (op : Op) → next_op driver ≡ Some op → IsSome (submit_fault node op) → calls ≡ MayIssue driver.next true ∷ []
      → IsHeldBack driver node calls

-- The next operation is submitted while fewer are pending than may be, and was allowed, or nothing can be. The gate is asked just
-- these calls for it, and these deeds of the worker have done it.
pub data Submits (old new : DriverOf) (before after : NodeOf) (calls : List Call) (deeds : List Deed) : Type 0 where
  OneMore : (op : Op) → length old.pending < most_pending old.issuing → next_op old ≡ Some op → new ≡ with_submitted old op
      → calls ≡ MayIssue old.next true ∷ [] → IsIssued before after op → deeds ≡ Issues op ∷ [] → Submits old new before after calls deeds
  NoneNow : IsHeldBack old before calls → new ≡ old → after ≡ before → deeds ≡ [] → Submits old new before after calls deeds

-- ---- performed

-- operations are performed one after another, with these entries
abbrev pub ArePerformed : NodeOf → List Entry → NodeOf → Type 0
ArePerformed before [] after = before ≡ after
ArePerformed before (entry ∷ entries) after = (next : NodeOf) × IsLogged before next entry.op.line entry × ArePerformed next entries after

-- the deed that has performed an operation with this entry
abbrev pub performed : Entry → Deed
performed entry = Performs entry.op.line entry

-- at some moment while they were, nothing could be performed on this line
pub record IsTried (line : ℕ) (before after : NodeOf) : Type 0 where
  pub node : NodeOf
  pub earlier : List Entry
  pub first : ArePerformed before earlier node
  pub cannot : node_performing node line ≡ None
  pub later : List Entry
  pub rest : ArePerformed node later after

-- performing leaves a driver as it was, but for its pending lines, of which one goes with each entry
pub record HasPerformed (old new : DriverOf) (entries : List Entry) : Type 0 where
  pub script : new.script ≡ old.script
  pub issuing : new.issuing ≡ old.issuing
  pub next : new.next ≡ old.next
  pub fewer : length old.pending ≡ length new.pending + length entries

-- ---- a round

-- What comes before the turn: the next operation is submitted if it can be, and then each that is pending is tried, and
-- performed if it can be. These deeds have done it.
pub record HasWorked (old new : DriverOf) (before after : NodeOf) (deeds : List Deed) : Type 0 where
  pub driver : DriverOf
  pub node : NodeOf
  pub asked : List Call
  pub first : List Deed
  pub submits : Submits old driver before node asked first
  pub entries : List Entry
  pub performs : ArePerformed node entries after
  pub left : HasPerformed driver new entries
  pub deeds_are : deeds ≡ first ++ map performed entries
  pub tried : (line : ℕ) → Contains new.pending line → IsTried line node after

-- the turn of a round, unless it was refused
abbrev pub turn_of : {E : Type 0} → Result Round E → List Deed
turn_of (Ok round) = Turns round.progress ∷ []
turn_of (Err refused) = []

-- A round by these deeds: what comes before the turn, and a turn from there. The gate is asked about the next operation at most
-- once, and then each entry is reported to it, and the end exactly if it comes; it has no other call. If the turn isn't refused,
-- the end has been reported exactly if the whole script is answered; if it is, it isn't reported now.
pub record IsDrivenRound {G E : Type 0} (hears : G → List Call → G → Type 0) (deeds : List Deed) (gate later : G) (old new : DriverOf) (before after : NodeOf)
    (result : Result Round E) : Type 0 where
  pub heard : IsHeard hears gate later old new before after
  pub node : NodeOf
  pub works : List Deed
  pub worked : HasWorked old new before node works
  pub calls_are : heard.calls ≡ worked.asked ++ reports worked.entries old.was_done new.was_done
  pub deeds_are : deeds ≡ works ++ turn_of result
  pub same : HasSameWork node after
  pub turn : IfOk result (λ round. IsNodeTurn node after round.progress)
  pub done : IfOk result (λ round. (new.was_done ≡ true) ↔ IsAnswered new)
  pub stopped : IsErr result → new.was_done ≡ old.was_done

-- the worker has done these deeds of a round, and if its turn was refused, that has stopped it behind them
abbrev pub HasDone : {W E : Type 0} → (W → List Deed → W → Type 0) → (W → W → Type 0) → List Deed → W → W → Result Round E → Type 0
HasDone does stopped deeds old new (Ok round) = does old deeds new
HasDone does stopped deeds old new (Err refused) = (turning : _) × does old deeds turning × stopped turning new

-- ---- many rounds

-- This many rounds by these deeds, one after another, with the gate's calls behind each, whether the driver has finished with
-- the last one, and this many turns in a row at their end without an entry or a rest. It hasn't finished with any before the last.
abbrev pub AreDrivenRounds : {G : Type 0} → (G → List Call → G → Type 0) → ℕ → Bool → ℕ → List Deed → G → G → DriverOf → DriverOf → NodeOf → NodeOf → Type 0
AreDrivenRounds hears zero finished restless deeds gate later old new before after =
    (finished ≡ false) × (restless ≡ 0) × (deeds ≡ []) × (gate ≡ later) × (old ≡ new) × (before ≡ after)
AreDrivenRounds hears (suc turns) finished restless deeds gate later old new before after =
    (mid heard : _) × (driver : DriverOf) × (node : NodeOf) × (round : Round) × (row : ℕ) × (calls : List Call) × (first last : List Deed)
    × (deeds ≡ first ++ last) × AreDrivenRounds hears turns false row first gate mid old driver before node
    × IsDrivenRound {E = AllocError} hears last mid heard driver new node after (Ok round)
    × hears heard calls later × AreBehind new round row restless calls finished
