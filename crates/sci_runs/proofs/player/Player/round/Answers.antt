use Rattle.std.proofs.Common.{◌≡◌, ℕ, All, List, sym, subst, rules}
use Rattle.sci_core.specs.Core.{node_at}
use Rattle.sci_policy.specs.Deeds.{Deed}
use Rattle.sci_drive.specs.{Calls.{IsOpen}, Rounds.{HasDone}}
use Rattle.sci_drive.proofs.HeardAs.{round_as}
use Rattle.sci_runs.specs.{declared.seat.Seat.{Seat}, Goings.{DoesDeedsAt, StopsAt, place}, Played.{IsOpenRound}, Recorded.{RecorderOf}}
use Rattle.sci_runs.proofs.Playing.{at_node}
use Rattle.sci_runs.proofs.player.Player.round.Goals as goal

pub returns-clause-goes : goal.returns-clause-goes
returns-clause-goes c =
    let player = c.args.self.now in
    let n = c.args.node in
    let old = c.args.recorder.now in
    let worker = c.round.new.worker in
    let went = c.round.ensures.goes in
    let Round : RecorderOf → Type 0 = λ later. (deeds : List Deed)
    × IsOpenRound deeds player.driver c.round.new.self (node_at old.core n) (node_at later.core n) c.round.result
    × HasDone (DoesDeedsAt n) (StopsAt n) deeds (place player.policy old) (place worker.policy.now later) c.round.result in
    let there : (later : RecorderOf) → later ≡ worker.recorder.now → Round later = λ later is. subst Round (sym is) (
      went.0,
      subst (λ (k : ℕ). IsOpenRound went.0 player.driver c.round.new.self (node_at old.core n) (node_at worker.recorder.now.core k) c.round.result)
          c.round.ensures.stays.0
          (round_as _ (λ (first : Unit {0}) calls last. All IsOpen calls) (λ gate. tt) (λ gate later calls all. all) went.1),
      at_node (λ (seat : Seat). seat.node) (λ (seat : Seat). seat.policy.now) (λ (seat : Seat). seat.recorder.now) n went.0 player.policy old worker
          c.round.result went.2,
    ) in
    there _ (search rules)
