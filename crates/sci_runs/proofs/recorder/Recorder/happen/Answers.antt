use Rattle.std.proofs.Common.{sym, subst}
use Rattle.sci_core.specs.Core.{IsEnabled}
use Rattle.sci_runs.specs.Recorded.{RecorderOf}
use Rattle.sci_runs.proofs.Recording.{enabled_fits, has_pushed, recorder_on}
use Rattle.sci_runs.proofs.recorder.Recorder.happen.Goals as goal

pub push-requires : goal.push-requires
push-requires c = enabled_fits _ _ c.args.event.now c.self.invariant.sized c.extent-extent.ensures.reached
    (subst (λ (r : RecorderOf). IsEnabled r.core c.args.event.now) (sym c.self.view_is) c.requires)

pub invariant_of-self-in-Ok : goal.invariant_of-self-in-Ok
invariant_of-self-in-Ok c =
    let push = c.push.ensures in
    recorder_on _ _ _ _ _ _ c.args.event.now c.push.result c.self.invariant c.extent-extent.ensures.reached c.in-Ok.ensures.ok c.make.ensures.size
    (has_pushed push.recorded push.none push.same push.lost push.keeps push.full)
