-- What each node of a machine does of a script.
use Rattle.std.specs.Prelude.{◌≡◌, ◌<◌, ◌≤◌, ◌+◌, ◌⊎◌, ℕ, All, Bool, true, false, List, [], length, map, Result, Ok, IfOk}
use Rattle.std.specs.{Prelude.{slice_index_or, Vec}, List.{sum}}
use Rattle.sci_words.specs.declared.{operation.Op.{Op}, stamped.Stamped.{Stamped}}
use Rattle.sci_history.specs.{declared.entry.Entry.{Entry}}
use Rattle.sci_core.specs.{Size.{Size}, Core.{Core}, Outcome.{logs_of}, Sharing.{last_of}}
use Rattle.sci_lanes.specs.{Shown.{me_of}, Ends.{EndOf}, Gathering.{AreMadeBy, IsLedTo}}
use Rattle.sci_drive.specs.declared.driver.Issuing.{Issuing, TheVariants.{InOrder}}
use Rattle.sci_drive.specs.{Calls.{Call, EndWithAllDone, IsHeard}, Driving.{DriverOf, IsDriven, IsInOrder, opening_driver}}
use Rattle.sci_policy.specs.Deeds.{Deed}
use Rattle.sci_station.specs.{Deeds.{Does}, Ends.{IsSameEnd}}
use Rattle.sci_threads.specs.{declared.share.Share.{Share}, Slices.{AreDrivenSlices}}

-- Logs and last contents of the state where one schedule leads a machine of this size. Each of its events is enabled when it
-- comes, and each log has the entries that its node's own events make.
pub record AreLedTo (size : Size) (logs : List (List Entry)) (last : List Stamped) : Type 0 where
  pub core : Core
  pub led : IsLedTo size core
  pub logs_are : logs ≡ logs_of core
  pub made : AreMadeBy size led.schedule logs
  pub last_are : last ≡ last_of core

-- ---- inside

-- the operations of the node with this number
abbrev pub own_of : {Z : Type 0} → List (Vec Op Z) → ℕ → List Op
own_of all node = slice_index_or (map (λ own. own.items) all) node []

-- a share before its run: a new driver has the operations that stand under its node's number, and all turns are left
pub record IsOpened {G : Type 0} (issuing : Issuing) (operations : ℕ → List Op) (turns : ℕ) (share : Share G) : Type 0 where
  pub driver : share.driver ≡ opening_driver (operations (me_of share.station.end.part)) issuing
  pub ordered : issuing ≡ InOrder → IsInOrder share.driver share.station.end.part.node
  pub left : share.left ≡ turns
  pub unfinished : share.finished ≡ Ok false

-- The driver of a share has driven the station of this end, and has come to the end of its script if it has finished.
pub record IsWell {E : Type 0} (driver : DriverOf) (end : EndOf) (finished : Result Bool E) : Type 0 where
  pub driven : IsDriven driver end.part.node
  pub answered : IfOk finished (λ all. all ≡ true → (driver.next ≡ length driver.script) × (driver.pending ≡ []) × (driver.was_done ≡ true))

-- a share that has finished, was refused, or has no turn left
abbrev pub HasEnded : {G : Type 0} → Share G → Type 0
HasEnded share = IfOk share.finished (λ finished. (finished ≡ true) ⊎ (share.left ≡ 0))

-- a share that has ended, or has at most this many turns left
abbrev pub HasAtMost : {G : Type 0} → ℕ → Share G → Type 0
HasAtMost turns share = HasEnded share ⊎ (share.left ≤ turns)

-- the driver of a share went on in slices, of as many turns in all as the share has fewer left, by deeds of its station
pub record TakesTurns {G : Type 0} (hears : G → List Call → G → Type 0) (old new : Share G) (had has : Bool) : Type 0 where
  pub slices : List ℕ
  pub fewer : sum slices + new.left ≡ old.left
  pub deeds : List Deed
  pub does : Does deeds old.station new.station
  pub gone : AreDrivenSlices hears slices had has deeds old.gate new.gate old.driver new.driver old.station.end.part.node new.station.end.part.node

-- The same share, later. Its gate has had some calls. If it has finished since, the last of them was answered that all are done. Unless it
-- was refused, its driver went on.
pub record IsLaterShare {G : Type 0} (hears : G → List Call → G → Type 0) (old new : Share G) : Type 0 where
  pub same : IsSameEnd old.station.end new.station.end
  pub script : new.driver.script ≡ old.driver.script
  pub order : IsInOrder old.driver old.station.end.part.node → IsInOrder new.driver new.station.end.part.node
  pub heard : IsHeard hears old.gate new.gate old.driver new.driver old.station.end.part.node new.station.end.part.node
  pub all_done : new.finished ≡ Ok true → ((old.finished ≡ Ok true) × (heard.calls ≡ [])) ⊎ EndWithAllDone heard.calls
  pub rounds : IfOk new.finished (λ has. (had : Bool) × (old.finished ≡ Ok had) × TakesTurns hears old new had has)
  pub left : new.left ≤ old.left
  pub ended : HasEnded old → HasEnded new

-- each share is well
abbrev pub AreWell : {G : Type 0} → List (Share G) → Type 0
AreWell shares = All (λ share. IsWell share.driver share.station.end share.finished) shares

-- each share goes on from what it was
abbrev pub AllGoOn : {G : Type 0} → (G → List Call → G → Type 0) → List (Share G) → List (Share G) → Type 0
AllGoOn hears old new = (k : ℕ) (d : _) → k < length old → IsLaterShare hears (slice_index_or old k d) (slice_index_or new k d)

-- each share has ended, or has fewer turns left than it had
abbrev pub HaveFewer : {G : Type 0} → List (Share G) → List (Share G) → Type 0
HaveFewer old new = (k : ℕ) (d : _) → k < length old → HasEnded (slice_index_or new k d) ⊎ ((slice_index_or new k d).left < (slice_index_or old k d).left)
