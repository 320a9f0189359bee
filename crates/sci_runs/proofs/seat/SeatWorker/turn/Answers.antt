use Rattle.std.proofs.Common.{◌≡◌, [], ◌∷◌, refl, arith}
use Rattle.sci_policy.specs.Deeds.{Turns}
use Rattle.sci_turn.proofs.Moments.{if_ok_map}
use Rattle.sci_runs.specs.{Deeds.{IsTurnDone}, Goings.{DoesDeeds}, Recorded.{course_of}}
use Rattle.sci_runs.proofs.Playing.{turns}
use Rattle.sci_runs.proofs.seat.SeatWorker.turn.Goals as goal

pub returns-clause-does : goal.returns-clause-does
returns-clause-does c =
    let seat = c.args.self.now in
    let policy = c.turn_on.new.policy in
    let old = seat.recorder.now in
    let new = c.turn_on.new.recorder in
    let told = c.turn_on.ensures in
    if_ok_map (IsTurnDone seat.node seat.policy.now (course_of old) policy (course_of new))
    (λ progress. (seat.node ≡ seat.node) × DoesDeeds seat.node (Turns progress ∷ []) seat.policy.now old policy new) c.turn_on.result
    (λ progress whole. (refl, turns seat.node seat.policy.now policy old new progress told.keeps whole)) told.done

pub returns-clause-stopped : goal.returns-clause-stopped
returns-clause-stopped c = grind arith

pub returns-clause-stays : goal.returns-clause-stays
returns-clause-stays c = (refl, refl, refl, c.turn_on.ensures.spares)
