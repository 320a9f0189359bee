-- Nodes that were driven with gates that allow each operation.
use Rattle.std.proofs.Common.{◌≡◌, ◌<◌, ℕ, Bool, false, List, [], ◌∷◌, length, ap, arith}
use Rattle.std.specs.Prelude.{slice_index_or}
use Rattle.sci_words.specs.declared.{event.Event.{Event}, operation.Op.{Op}}
use Rattle.sci_core.specs.{Core.{Core}, Node.{NodeOf}}
use Rattle.sci_policy.specs.Deeds.{Deed}
use Rattle.sci_drive.specs.{declared.driver.Issuing.{Issuing}, Calls.{AllowAll, Call}, Driving.{DriverOf}}
use Rattle.sci_drive.proofs.HeardAs.{rounds_as}
use Rattle.sci_station.specs.Station.{StationOf}
use Rattle.sci_threads.specs.Slices.{AreDrivenOpenly, AreDrivenThrough, AreDrivenSlices, IsDrivenThrough, hears_openly}

module _ {G : Type 0} (hears : G → List Call → G → Type 0) (allows : (g h : G) (calls : List Call) → hears g calls h → AllowAll calls) where
  slices_openly : (slices : List ℕ) (had has : Bool) (deeds : List Deed) (gate later : G) (old new : DriverOf) (before after : NodeOf)
      → AreDrivenSlices hears slices had has deeds gate later old new before after
      → AreDrivenSlices hears_openly slices had has deeds tt tt old new before after
  slices_openly [] had has deeds gate later old new before after go = (go.0, go.1, ap (λ g. tt) go.2, go.3, go.4)
  slices_openly (turns ∷ slices) had has deeds gate later old new before after go = (
    tt,
    go.1,
    go.2,
    go.3,
    go.4,
    go.5,
    go.6,
    slices_openly slices had false go.4 gate go.0 old go.1 before go.2 go.7,
    rounds_as hears hears_openly (λ g. tt) allows turns has go.3 go.5 go.0 later go.1 new go.2 after go.8,
  )

  driven_openly : {turns : ℕ} {issuing : Issuing} {operations : List Op} {gate : G} {old new : StationOf} {finished : Bool}
      → IsDrivenThrough hears turns issuing operations gate old new finished → IsDrivenThrough hears_openly turns issuing operations tt old new finished
  driven_openly {gate = gate} {finished} is = grind (arith, slices_openly)

  -- the gate at a node's place
  at_place : {turns : ℕ} {issuing : Issuing} {operations : List Op} (gates : List G) (node : ℕ) {old new : StationOf} {finished : Bool} → node < length gates
      → ((d : G) → IsDrivenThrough hears turns issuing operations (slice_index_or gates node d) old new finished)
      → IsDrivenThrough hears_openly turns issuing operations tt old new finished
  at_place [] node lt each = absurd (omega (arith, lt))
  at_place (gate ∷ gates) node lt each = driven_openly (each gate)

  pub all_openly : {turns : ℕ} {issuing : Issuing} {operations : ℕ → List Op} {gates : List G} {core : Core} {schedule : List Event} {all : Bool}
      → length gates ≡ core.size.nodes → AreDrivenThrough hears turns issuing operations gates core schedule all
      → AreDrivenOpenly turns issuing operations core schedule all
  all_openly {gates = gates} many are = record {
    table = are.table;
    station = are.station;
    finished = are.finished;
    are_of = are.are_of;
    each = λ node nothing lt. at_place gates node (omega (arith, many)) (λ d. are.each node d lt);
    all_are = are.all_are;
  }
