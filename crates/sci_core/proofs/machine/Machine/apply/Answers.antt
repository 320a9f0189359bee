-- A reached state is well formed, and one event more leads to a reached state.
use Rattle.std.proofs.Common.{ap, ◌∙◌, arith}
use Rattle.sci_core.specs.{Core.{Core}}
use Rattle.sci_core.proofs.ReachedLaws.{reached_coherent, applied_effects}
use Rattle.sci_core.proofs.WellFormed.WellFormedSteps.{reached_well, reached_either, size_either}
use Rattle.sci_core.proofs.machine.Machine.apply.Goals as goal

pub apply-requires : goal.apply-requires
apply-requires c = reached_well c.self.inside.state c.self.invariant

pub invariant_of-self : goal.invariant_of-self
invariant_of-self c = reached_either c.apply.result c.self.inside.state c.apply.new.self c.args.event.now c.self.invariant c.apply.ensures.done
    c.apply.ensures.same

pub returns-clause-effect : goal.returns-clause-effect
returns-clause-effect c = grind (arith, applied_effects)

pub returns-clause-coherent : goal.returns-clause-coherent
returns-clause-coherent c =
    reached_coherent c.apply.new.self
    (reached_either c.apply.result c.self.inside.state c.apply.new.self c.args.event.now c.self.invariant c.apply.ensures.done c.apply.ensures.same)

pub returns-clause-size : goal.returns-clause-size
returns-clause-size c =
    let size = size_either c.apply.result c.self.inside.state c.apply.new.self c.args.event.now c.self.invariant c.apply.ensures.done c.apply.ensures.same in
    size ∙ ap (λ (core : Core). core.size) c.self.view_is
