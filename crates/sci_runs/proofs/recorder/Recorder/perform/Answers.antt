use Rattle.std.proofs.Common.{◌<◌, refl, sym, subst}
use Rattle.sci_words.specs.declared.event.Event.TheVariants.{Perform}
use Rattle.sci_core.specs.{Core.{node_at}, Work.{IsLogged}}
use Rattle.sci_core.proofs.History.Pendings.{perform_puts}
use Rattle.sci_runs.proofs.{NodeSteps.{node_fits}, Recording.{event_within, has_pushed, recorder_on}, Sparing.{spares_step}}
use Rattle.sci_runs.specs.Recorded.{RecorderOf, SparesOthers}
use Rattle.sci_runs.proofs.recorder.Recorder.perform.Goals as goal

pub push-recorded-requires : goal.push-recorded-requires
push-recorded-requires c =
    event_within _ _ _ (Perform c.args.node c.args.line) c.self.invariant.sized c.extent-extent.ensures.reached c.in_ok-entry.ensures.event

pub invariant_of-self-2 : goal.invariant_of-self-2
invariant_of-self-2 c =
    let push = c.push-recorded.ensures in
    recorder_on _ _ _ _ _ _ (Perform c.args.node c.args.line) c.push-recorded.result c.self.invariant c.extent-extent.ensures.reached
    c.in_ok-entry.ensures.event c.perform_on.ensures.size (has_pushed push.recorded push.none push.same push.lost push.keeps push.full)

pub returns-clause-performed : goal.returns-clause-performed
returns-clause-performed c =
    let n = c.args.node in
    let old = c.self.inside.machine in
    let new = c.perform_on.new.machine in
    let some = subst (λ (r : RecorderOf). n < r.core.size.nodes) (sym c.self.view_is) c.requires in
    subst (λ (r : RecorderOf). IsLogged (node_at r.core n) (node_at new n) c.args.line c.in_ok-entry.entry) c.self.view_is
    (perform_puts (node_at old n) (node_at new n) c.args.line c.in_ok-entry.entry (node_fits old n c.extent-extent.ensures.reached some)
    c.in_ok-entry.ensures.performed)

pub returns-clause-spares : goal.returns-clause-spares
returns-clause-spares c =
    subst (λ (r : RecorderOf). SparesOthers c.args.node r.core c.perform_on.new.machine) c.self.view_is
    (spares_step c.args.node c.self.inside.machine c.perform_on.new.machine (Perform c.args.node c.args.line) refl c.in_ok-entry.ensures.event
    c.perform_on.ensures.size)
