-- What is said of rounds with a gate is said of them with another that hears no less.
use Rattle.std.proofs.Common.{ℕ, zero, suc, Bool, false, List, Result, ap}
use Rattle.sci_core.specs.Node.{NodeOf}
use Rattle.sci_policy.specs.Deeds.{Deed}
use Rattle.sci_drive.specs.{declared.driver.Round.{Round}, Calls.{Call}, Driving.{DriverOf}, Rounds.{AreDrivenRounds, IsDrivenRound}}

module _ {G H : Type 0} (hears : G → List Call → G → Type 0) (other : H → List Call → H → Type 0) (same : G → H)
    (hears_as : (g h : G) (calls : List Call) → hears g calls h → other (same g) calls (same h)) where
  pub round_as : {E : Type 0} {deeds : List Deed} {gate later : G} {old new : DriverOf} {before after : NodeOf} {result : Result Round E}
      → IsDrivenRound hears deeds gate later old new before after result → IsDrivenRound other deeds (same gate) (same later) old new before after result
  round_as {gate = gate} {later} goes = record {
    heard = record { calls = goes.heard.calls; heard = hears_as gate later goes.heard.calls goes.heard.heard; are = goes.heard.are };
    node = goes.node;
    works = goes.works;
    worked = goes.worked;
    calls_are = goes.calls_are;
    deeds_are = goes.deeds_are;
    same = goes.same;
    turn = goes.turn;
    done = goes.done;
    stopped = goes.stopped;
  }

  pub rounds_as : (turns : ℕ) (finished : Bool) (restless : ℕ) (deeds : List Deed) (gate later : G) (old new : DriverOf) (before after : NodeOf)
      → AreDrivenRounds hears turns finished restless deeds gate later old new before after
      → AreDrivenRounds other turns finished restless deeds (same gate) (same later) old new before after
  rounds_as zero finished restless deeds gate later old new before after go = (go.0, go.1, go.2, ap same go.3, go.4, go.5)
  rounds_as (suc turns) finished restless deeds gate later old new before after go = (
    same go.0,
    same go.1,
    go.2,
    go.3,
    go.4,
    go.5,
    go.6,
    go.7,
    go.8,
    go.9,
    rounds_as turns false go.5 go.7 gate go.0 old go.2 before go.3 go.10,
    round_as go.11,
    hears_as go.1 later go.6 go.12,
    go.13,
  )
