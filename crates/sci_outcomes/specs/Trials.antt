-- The outcomes of a script that is run many times.
use Rattle.std.specs.Prelude.{◌≡◌, ℕ, ◌≤◌, ◌<◌, ◌+◌, ◌*◌, ◌%◌, ◌^◌, ◌⊎◌, Bool, true, false, All, List, Some, length, slice_index_or, IfErr, IfOk, Result}
use Rattle.sci_words.specs.declared.{event.Event.{Event}, limits.TheConstants.{MAX_TURNS}, stamped.Stamped.{Stamped}}
use Rattle.sci_history.specs.{declared.entry.Entry.{Entry}, Lawful.{Lawful}}
use Rattle.sci_history.specs.Sequential.{AreInProgramOrder, IsSequentiallyConsistent}
use Rattle.sci_text.specs.{Script.{ScriptValue, operations_of}, Schedule.{ScheduleValue}}
use Rattle.sci_core.specs.Core.{Core}
use Rattle.sci_lanes.specs.Gathering.{IsLedTo}
use Rattle.sci_drive.specs.declared.driver.Issuing.{Issuing, TheVariants.{InOrder}}
use Rattle.sci_runs.specs.{Played.{IsPlayed, IsTooLong}, Runs.{IsRunOf, last_behind, logs_behind}}
use Rattle.sci_drive.specs.ScriptLogs.{HaveWholeLogsOf, size_for}
use Rattle.sci_threads.specs.{Shares.{AreLedTo}, Slices.{AreDrivenOpenly}}
use Rattle.sci_allowed.specs.{Outcome.{IsPlaceWithin, written_places}, declared.place.Place.{Place}}
use Rattle.sci_runs.specs.declared.fault.RunFault.{RunFault, TheVariants.{Memory, TooMany}}
use Rattle.sci_outcomes.specs.declared.fault.TrialsFault.{TrialsFault}
use Rattle.sci_outcomes.specs.declared.{histogram.Histogram.{Histogram}, outcome.Sighting.{Sighting}}
use Rattle.sci_outcomes.specs.declared.trials.{Trials.{Trials}, TheConstants.{MAX_KEPT}, Turns.{Turns, TheVariants.{Drawn, Threads}}}
use Rattle.sci_outcomes.specs.{Outcomes.{IsSeen}, Rows.{AreCrowded, HasCounted, outcomes_in}}
use Rattle.sci_outcomes.specs.declared.fault.TrialsFault.TheVariants as fault

-- the places are those of the words that the script may write
pub record AreWrittenBy (script : ScriptValue) (places : List Place) : Type 0 where
  pub places_are : places ≡ written_places script.lines script.operations
  pub within : All (IsPlaceWithin script.lines) places

-- what is seen of a run in the order that this seed draws, in which each operation was performed; its logs are lawful
pub record IsDrawnSighting (script : ScriptValue) (issuing : Issuing) (seed : ℕ) (sighting : Sighting) : Type 0 where
  pub schedule : ScheduleValue
  pub run : IsRunOf script issuing true schedule
  pub rounds : ℕ
  pub played : IsPlayed script issuing (Some seed) rounds true schedule
  pub lawful : Lawful (logs_behind script schedule) (last_behind script schedule)
  pub consistent : IsSequentiallyConsistent (logs_behind script schedule) (last_behind script schedule)
  pub seen : IsSeen (written_places script.lines script.operations) (logs_behind script schedule) (last_behind script schedule) sighting

-- the nodes of a machine of the script are driven so through the script, and all come to their end or not
abbrev pub IsDrivenFor : ScriptValue → Issuing → Core → List Event → Bool → Type 0
IsDrivenFor script issuing core schedule all =
    AreDrivenOpenly MAX_TURNS issuing (λ node. operations_of node script.operations) core schedule all

-- What is seen of a run by threads in which each operation was performed: each node is driven for at most 1,000,000,000 turns,
-- and comes to its end. Its logs are lawful, and in order if operations are issued so.
pub record IsThreadSighting (script : ScriptValue) (issuing : Issuing) (sighting : Sighting) : Type 0 where
  pub logs : List (List Entry)
  pub last : List Stamped
  pub led : AreLedTo (size_for script) logs last
  pub driven : IsDrivenFor script issuing led.core led.led.schedule true
  pub whole : HaveWholeLogsOf script logs
  pub ordered : issuing ≡ InOrder → AreInProgramOrder logs
  pub lawful : Lawful logs last
  pub consistent : IsSequentiallyConsistent logs last
  pub seen : IsSeen (written_places script.lines script.operations) logs last sighting

-- in which order nodes take turns in the run with this number
abbrev pub turns_of_run : Turns → ℕ → Turns
turns_of_run (Drawn seed) number = Drawn ((seed + number) % 2 ^ 64)
turns_of_run Threads number = Threads

-- a run in the order that this seed draws takes 1,000,000,000 turns, and some operation has no entry then
pub record IsUnfinished (script : ScriptValue) (issuing : Issuing) (seed : ℕ) : Type 0 where
  pub schedule : ScheduleValue
  pub run : IsRunOf script issuing false schedule
  pub played : IsPlayed script issuing (Some seed) MAX_TURNS false schedule

-- a run by threads takes 1,000,000,000 turns of some node, which hasn't come to its end then
pub record IsCutShort (script : ScriptValue) (issuing : Issuing) : Type 0 where
  pub core : Core
  pub led : IsLedTo (size_for script) core
  pub driven : IsDrivenFor script issuing core led.schedule false

-- A run is given up: in an order that is drawn it makes as many events as a schedule can have, or takes all its turns; by
-- threads a node takes all its turns.
abbrev pub IsGivenUp : ScriptValue → Turns → Issuing → Type 0
IsGivenUp script (Drawn seed) issuing = IsTooLong script issuing (Some seed) MAX_TURNS ⊎ IsUnfinished script issuing seed
IsGivenUp script Threads issuing = IsCutShort script issuing

-- one of the runs with a number below the end is
abbrev pub OneIsGivenUpBelow : ScriptValue → Turns → Issuing → (end : ℕ) → Type 0
OneIsGivenUpBelow script turns issuing end = (number : ℕ) × (number < end) × IsGivenUp script (turns_of_run turns number) issuing

-- one of the runs is
abbrev pub OneIsGivenUp : ScriptValue → Trials → Type 0
OneIsGivenUp script trials = OneIsGivenUpBelow script trials.turns trials.issuing trials.runs

-- what is seen of a run in such an order
abbrev pub IsSightingOf : ScriptValue → Turns → Issuing → Sighting → Type 0
IsSightingOf script (Drawn seed) issuing sighting = IsDrawnSighting script issuing seed sighting
IsSightingOf script Threads issuing sighting = IsThreadSighting script issuing sighting

-- each is what is seen of the run with its number, from the start on
abbrev pub AreSightings : ScriptValue → Turns → Issuing → (start : ℕ) → List Sighting → Type 0
AreSightings script turns issuing start seen =
    (number : ℕ) (d : Sighting) → number < length seen → IsSightingOf script (turns_of_run turns (number + start)) issuing (slice_index_or seen number d)

-- what was seen of all runs of the script, in their order
pub record AreSeenOf (script : ScriptValue) (trials : Trials) (seen : List Sighting) : Type 0 where
  pub many : length seen ≡ trials.runs
  pub each : AreSightings script trials.turns trials.issuing 0 seen

-- some first runs, at most up to the end, have outcomes with more operations in all than are kept, each of them those of the script
pub record AreCrowdedBelow (script : ScriptValue) (turns : Turns) (issuing : Issuing) (end : ℕ) : Type 0 where
  pub seen : List Sighting
  pub few : length seen ≤ end
  pub each : AreSightings script turns issuing 0 seen
  pub crowd : AreCrowded MAX_KEPT (length script.operations) seen

-- some first runs have
abbrev pub RunsAreCrowded : ScriptValue → Trials → Type 0
RunsAreCrowded script trials = AreCrowdedBelow script trials.turns trials.issuing trials.runs

-- ---- inside

-- the fault of all runs that a run's fault is
abbrev pub fault_of : RunFault → TrialsFault
fault_of Memory = fault.Memory
fault_of TooMany = fault.GivenUp

-- the outcomes have at most as many operations in all as are kept
abbrev pub AreWithin : ScriptValue → Histogram → Type 0
AreWithin script histogram = outcomes_in histogram * length script.operations ≤ MAX_KEPT

-- a histogram of what was seen of the runs from the start up to the end
pub record IsCountOf (script : ScriptValue) (turns : Turns) (issuing : Issuing) (start end : ℕ) (histogram : Histogram) : Type 0 where
  pub seen : List Sighting
  pub many : length seen + start ≡ end
  pub each : AreSightings script turns issuing start seen
  pub counted : HasCounted histogram seen

-- what counting these runs gives: a histogram of them, or that one of them is given up
abbrev pub IsCount : ScriptValue → Turns → Issuing → (start end : ℕ) → Result Histogram RunFault → Type 0
IsCount script turns issuing start end result =
    IfOk result (IsCountOf script turns issuing start end) × IfErr result (λ fault. fault ≡ TooMany → OneIsGivenUpBelow script turns issuing end)
