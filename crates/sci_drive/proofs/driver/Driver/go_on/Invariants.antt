use Rattle.std.proofs.Common.{◌≡◌, ◌≤◌, List, false}
use Rattle.sci_policy.specs.Deeds.{Deed}
use Rattle.sci_drive.specs.{Driving.{IsDriven, IsInOrder}, Rounds.{AreDrivenRounds}}
use Rattle.sci_drive.proofs.GateRests.{HasGone}
use Rattle.sci_drive.proofs.driver.Driver.go_on.Given as goal

abbrev pub invariant-loop-turn : goal.invariant-loop-turn
invariant-loop-turn g l = record {
  driven : IsDriven l.self (g.W.Worker.node l.worker);
  script : l.self.script ≡ l.initial.self.script;
  issuing : l.self.issuing ≡ l.initial.self.issuing;
  stays : g.W.Worker.stays l.initial.worker l.worker;
  few : l.restless ≤ 15;
  order : IsInOrder l.initial.self (g.W.Worker.node l.initial.worker) → IsInOrder l.self (g.W.Worker.node l.worker);
  gone : HasGone g.G.Gate.hears l.initial.gate l.gate l.initial.self l.self (g.W.Worker.node l.initial.worker) (g.W.Worker.node l.worker) l.turn l.restless;
  rounds : (deeds : List Deed) × g.W.Worker.does l.initial.worker deeds l.worker
      × AreDrivenRounds g.G.Gate.hears l.turn false l.restless deeds l.initial.gate l.gate l.initial.self l.self (g.W.Worker.node l.initial.worker)
      (g.W.Worker.node l.worker);
}
