use Rattle.std.proofs.Common.{refl, arith}
use Rattle.sci_runs.proofs.Playing.{idles, issued}
use Rattle.sci_runs.proofs.seat.SeatWorker.submit.Goals as goal

pub returns-clause-does : goal.returns-clause-does
returns-clause-does c =
    let seat = c.args.self.now in
    let told = c.submit.ensures in
    issued c.submit.result seat.node c.args.op seat.policy.now seat.recorder.now c.submit.new.self told.keeps told.stands told.event told.recorded

pub returns-clause-idle : goal.returns-clause-idle
returns-clause-idle c = grind (arith, idles)

pub returns-clause-stays : goal.returns-clause-stays
returns-clause-stays c = (refl, refl, refl, c.submit.ensures.spares)
