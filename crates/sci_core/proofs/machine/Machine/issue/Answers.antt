-- One event more leads to a reached state.
use Rattle.std.proofs.Common.{ap, ◌∙◌}
use Rattle.sci_core.specs.Core.{Core}
use Rattle.sci_words.specs.declared.event.Event.TheVariants.{Issue}
use Rattle.sci_core.proofs.{ReachedLaws.{reached_coherent}, WellFormed.WellFormedSteps.{reached_maybe, size_maybe}}
use Rattle.sci_core.proofs.machine.Machine.issue.Goals as goal

pub invariant_of-self : goal.invariant_of-self
invariant_of-self c = reached_maybe c.issue.result c.self.inside.state c.issue.new.self (Issue c.args.node c.args.op) c.self.invariant c.issue.ensures.done
    c.issue.ensures.same

pub returns-clause-coherent : goal.returns-clause-coherent
returns-clause-coherent c = reached_coherent c.issue.new.self
    (reached_maybe c.issue.result c.self.inside.state c.issue.new.self (Issue c.args.node c.args.op) c.self.invariant c.issue.ensures.done c.issue.ensures.same)

pub returns-clause-size : goal.returns-clause-size
returns-clause-size c =
    let size = size_maybe c.issue.result c.self.inside.state c.issue.new.self (Issue c.args.node c.args.op) c.self.invariant c.issue.ensures.done
    c.issue.ensures.same in
    size ∙ ap (λ (core : Core). core.size) c.self.view_is
