-- A driver beside the worker that it drives.
use Rattle.std.specs.Prelude.{◌≡◌, ◌<◌, ◌≤◌, ◌⊎◌, ◌+◌, ℕ, Bool, false, List, [], length, All, Some, None, slice_get}
use Rattle.std.specs.List.{Contains}
use Rattle.sci_words.specs.declared.operation.Op.{Op}
use Rattle.sci_core.specs.{Node.{NodeOf, pending_on}, declared.pending.Pending.{Pending}}
use Rattle.sci_history.specs.Sequential.{IsInProgramOrder}
use Rattle.sci_drive.specs.declared.driver.Issuing.{Issuing, TheVariants.{InOrder}}
use Rattle.sci_drive.specs.Script.{IsFrontOf, IsNamedBy, times_answered}

-- a script, when its operations are submitted, how many of them were, the lines on which one is pending, by serial, and
-- whether the gate has heard that the whole script is answered
pub record DriverOf : Type 0 where
  pub script : List Op
  pub issuing : Issuing
  pub next : ℕ
  pub pending : List ℕ
  pub was_done : Bool

abbrev pub opening_driver : List Op → Issuing → DriverOf
opening_driver script issuing = record { script = script; issuing = issuing; next = 0; pending = []; was_done = false }

-- each operation of the script was submitted, and none is pending
abbrev pub IsAnswered : DriverOf → Type 0
IsAnswered driver = (driver.next ≡ length driver.script) × (driver.pending ≡ [])

-- nothing was submitted, and nothing is logged
pub record HasSubmittedNothing (node : NodeOf) : Type 0 where
  pub issued : node.issued ≡ 0
  pub pending : (line : ℕ) → pending_on node line ≡ None
  pub log : node.log ≡ []

-- what is pending on a line: an operation of the script that was submitted and has no entry yet
pub record IsAwaited (driver : DriverOf) (node : NodeOf) (line : ℕ) (pending : Pending) : Type 0 where
  pub on : pending.op.line ≡ line
  pub named : slice_get driver.script pending.serial ≡ Some pending.op
  pub submitted : pending.serial < driver.next
  pub unanswered : times_answered pending.serial node.log ≡ 0
  pub known : Contains driver.pending line

-- the operation of this serial has its one entry, or it is pending
abbrev pub IsAnsweredOrPending : NodeOf → ℕ → Type 0
IsAnsweredOrPending node serial = (times_answered serial node.log ≡ 1) ⊎ ((op : Op) × (pending_on node op.line ≡ Some (record { serial = serial; op = op })))

-- The worker's node has done the script as far as the driver has come: what was submitted is pending or has its one entry,
-- and nothing else is pending or logged. Of what was submitted, as many are pending at the driver as have no entry.
pub record IsDriven (driver : DriverOf) (node : NodeOf) : Type 0 where
  pub issued : node.issued ≡ driver.next
  pub within : driver.next ≤ length driver.script
  pub named : All (IsNamedBy driver.script) node.log
  pub submitted : (serial : ℕ) → serial < driver.next → IsAnsweredOrPending node serial
  pub later : (serial : ℕ) → driver.next ≤ serial → times_answered serial node.log ≡ 0
  pub pending : (line : ℕ) (p : Pending) → pending_on node line ≡ Some p → IsAwaited driver node line p
  pub counted : driver.next ≡ length node.log + length driver.pending

-- A driver that issues in order: at most one operation is pending, and it comes next behind all that are logged; and the log
-- stands in the order of the script, with its first operations.
pub record IsInOrder (driver : DriverOf) (node : NodeOf) : Type 0 where
  pub issues : driver.issuing ≡ InOrder
  pub one : length driver.pending ≤ 1
  pub ordered : IsInProgramOrder node.log
  pub before : All (λ e. e.serial < driver.next) node.log
  pub behind : (line : ℕ) (p : Pending) → pending_on node line ≡ Some p → All (λ e. e.serial < p.serial) node.log
  pub next_one : (line : ℕ) (p : Pending) → pending_on node line ≡ Some p → p.serial ≡ length node.log
  pub front : IsFrontOf driver.script node.log
