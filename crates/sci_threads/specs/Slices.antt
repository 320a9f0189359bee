-- How a node is driven by a thread: in slices, one after another.
use Rattle.std.specs.{Prelude.{◌≡◌, ◌<◌, ◌≤◌, ◌↔◌, ◌++◌, ℕ, Bool, true, false, List, [], ◌∷◌, slice_index_or}, List.{sum}}
use Rattle.atomic_table.specs.Seated.{TableId}
use Rattle.sci_words.specs.declared.{event.Event.{Event}, operation.Op.{Op}}
use Rattle.sci_core.specs.{Core.{Core, node_at}, Node.{NodeOf}}
use Rattle.sci_lanes.specs.Shown.{IsSeen, opening_part}
use Rattle.sci_policy.specs.Deeds.{Deed}
use Rattle.sci_drive.specs.{declared.driver.Issuing.{Issuing}, Calls.{AllowAll, AreCallsOf, Call, EndWithAllDone, times_done}}
use Rattle.sci_drive.specs.{Driving.{DriverOf, IsAnswered, opening_driver}, Rounds.{AreDrivenRounds}}
use Rattle.sci_station.specs.{Deeds.{Does}, Station.{StationOf, node_in, opening_station}}

-- Slices of this many turns each by these deeds, the last one first, and whether the driver had finished before them and has
-- behind them. Each goes on where the one before it ended, which hasn't finished, but counts its turns in a row without an entry
-- or a rest from 0.
abbrev pub AreDrivenSlices : {G : Type 0} → (G → List Call → G → Type 0) → List ℕ → Bool → Bool → List Deed → G → G → DriverOf
    → DriverOf → NodeOf → NodeOf → Type 0
AreDrivenSlices hears [] had has deeds gate later old new before after = (had ≡ has) × (deeds ≡ []) × (gate ≡ later) × (old ≡ new) × (before ≡ after)
AreDrivenSlices hears (turns ∷ slices) had has deeds gate later old new before after =
    (mid : _) × (driver : DriverOf) × (node : NodeOf) × (restless : ℕ) × (first last : List Deed)
    × (deeds ≡ first ++ last) × AreDrivenSlices hears slices had false first gate mid old driver before node
    × AreDrivenRounds hears turns has restless last mid later driver new node after

-- The driver has come to the end of its script. Among these calls of its gate it has said so once, and the last was answered that all are
-- done.
pub record IsAtEnd (driver : DriverOf) (calls : List Call) : Type 0 where
  pub answered : IsAnswered driver
  pub once : times_done calls ≡ 1
  pub all_done : EndWithAllDone calls

-- A new driver of these operations has driven a station in slices, for at most this many turns in all: by deeds whose turns are
-- whole and by the station's policy. Its gate has had the calls of such a run. If it has finished it has come to the end, and
-- else it has used up the turns.
pub record IsDrivenThrough {G : Type 0} (hears : G → List Call → G → Type 0) (turns : ℕ) (issuing : Issuing) (operations : List Op) (gate : G)
    (old new : StationOf) (finished : Bool) : Type 0 where
  pub later : G
  pub driver : DriverOf
  pub slices : List ℕ
  pub deeds : List Deed
  pub gone : AreDrivenSlices hears slices false finished deeds gate later (opening_driver operations issuing) driver (node_in old) (node_in new)
  pub does : Does deeds old new
  pub few : sum slices ≤ turns
  pub calls : List Call
  pub heard : hears gate calls later
  pub are : AreCallsOf (node_in new) calls
  pub ended : finished ≡ true → IsAtEnd driver calls
  pub used_up : finished ≡ false → sum slices ≡ turns

-- The station of node n of a machine that a schedule leads to its state: it has the node, and knows a beginning of the schedule,
-- after which no event of its node comes.
pub record IsStationOf (core : Core) (schedule : List Event) (n : ℕ) (station : StationOf) : Type 0 where
  pub node : node_in station ≡ node_at core n
  pub seen : IsSeen station.end.part schedule

-- The station of each node of a machine was driven so, from a new one, with the gate at its place. So the events of each node in
-- the schedule are those of its station's deeds. All have finished exactly if each has.
pub record AreDrivenThrough {G : Type 0} (hears : G → List Call → G → Type 0) (turns : ℕ) (issuing : Issuing) (operations : ℕ → List Op)
    (gates : List G) (core : Core) (schedule : List Event) (all : Bool) : Type 0 where
  pub table : TableId
  pub station : ℕ → StationOf
  pub finished : ℕ → Bool
  pub are_of : (node : ℕ) → node < core.size.nodes → IsStationOf core schedule node (station node)
  pub each : (node : ℕ) (d : G) → node < core.size.nodes
      → IsDrivenThrough hears turns issuing (operations node) (slice_index_or gates node d)
      (opening_station (record { table = table; part = opening_part core.size node })) (station node) (finished node)
  pub all_are : (all ≡ true) ↔ ((node : ℕ) → node < core.size.nodes → finished node ≡ true)

-- a gate allows each operation that it is asked about
abbrev pub hears_openly : Unit {0} → List Call → Unit {0} → Type 0
hears_openly first calls last = AllowAll calls

-- the same of nodes whose gates allow each operation
abbrev pub AreDrivenOpenly : ℕ → Issuing → (ℕ → List Op) → Core → List Event → Bool → Type 0
AreDrivenOpenly turns issuing operations core schedule all = AreDrivenThrough hears_openly turns issuing operations [] core schedule all
