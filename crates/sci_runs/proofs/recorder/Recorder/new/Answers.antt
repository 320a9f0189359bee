use Rattle.sci_runs.proofs.Recording.{opened_recorder}
use Rattle.sci_runs.proofs.recorder.Recorder.new.Goals as goal

pub invariant_of-result : goal.invariant_of-result
invariant_of-result c = opened_recorder c.in_ok-machine.machine c.new-2.result c.args.extent c.args.limit c.in_ok-machine.ensures.opening
    c.new-2.ensures.value
