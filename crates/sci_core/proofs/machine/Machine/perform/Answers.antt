-- One event more leads to a reached state.
use Rattle.std.proofs.Common.{ap, ◌∙◌}
use Rattle.sci_core.specs.Core.{Core}
use Rattle.sci_words.specs.declared.event.Event.TheVariants.{Perform}
use Rattle.sci_core.proofs.{ReachedLaws.{reached_coherent}, WellFormed.WellFormedSteps.{reached_maybe, size_maybe}}
use Rattle.sci_core.proofs.machine.Machine.perform.Goals as goal

pub invariant_of-self : goal.invariant_of-self
invariant_of-self c = reached_maybe c.perform.result c.self.inside.state c.perform.new.self (Perform c.args.node c.args.line) c.self.invariant
    c.perform.ensures.done c.perform.ensures.same

pub returns-clause-coherent : goal.returns-clause-coherent
returns-clause-coherent c = reached_coherent c.perform.new.self
    (reached_maybe c.perform.result c.self.inside.state c.perform.new.self (Perform c.args.node c.args.line) c.self.invariant c.perform.ensures.done
    c.perform.ensures.same)

pub returns-clause-size : goal.returns-clause-size
returns-clause-size c =
    let size = size_maybe c.perform.result c.self.inside.state c.perform.new.self (Perform c.args.node c.args.line) c.self.invariant c.perform.ensures.done
    c.perform.ensures.same in
    size ∙ ap (λ (core : Core). core.size) c.self.view_is
