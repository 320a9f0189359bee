use Rattle.std.proofs.Common.{◌<◌, refl, sym, subst}
use Rattle.sci_words.specs.declared.event.Event.TheVariants.{Issue}
use Rattle.sci_core.specs.{Core.{node_at}, Work.{IsIssued}}
use Rattle.sci_runs.proofs.{NodeSteps.{issue_makes}, Recording.{event_within, has_pushed, recorder_on}, Sparing.{spares_step}}
use Rattle.sci_runs.specs.Recorded.{RecorderOf, SparesOthers}
use Rattle.sci_runs.proofs.recorder.Recorder.submit.Goals as goal

pub push-recorded-requires : goal.push-recorded-requires
push-recorded-requires c = event_within _ _ _ (Issue c.args.node c.args.op) c.self.invariant.sized c.extent-extent.ensures.reached c.in_ok-serial.ensures.issued

pub invariant_of-self-2 : goal.invariant_of-self-2
invariant_of-self-2 c =
    let push = c.push-recorded.ensures in
    recorder_on _ _ _ _ _ _ (Issue c.args.node c.args.op) c.push-recorded.result c.self.invariant c.extent-extent.ensures.reached c.in_ok-serial.ensures.issued
    c.submit_on.ensures.size (has_pushed push.recorded push.none push.same push.lost push.keeps push.full)

pub returns-clause-issued : goal.returns-clause-issued
returns-clause-issued c =
    let some = subst (λ (r : RecorderOf). c.args.node < r.core.size.nodes) (sym c.self.view_is) c.requires in
    subst (λ (r : RecorderOf). IsIssued (node_at r.core c.args.node) (node_at c.submit_on.new.machine c.args.node) c.args.op) c.self.view_is
    (issue_makes c.self.inside.machine c.submit_on.new.machine c.args.node c.args.op c.extent-extent.ensures.reached some c.in_ok-serial.ensures.issued)

pub returns-clause-spares : goal.returns-clause-spares
returns-clause-spares c =
    subst (λ (r : RecorderOf). SparesOthers c.args.node r.core c.submit_on.new.machine) c.self.view_is
    (spares_step c.args.node c.self.inside.machine c.submit_on.new.machine (Issue c.args.node c.args.op) refl c.in_ok-serial.ensures.issued
    c.submit_on.ensures.size)
