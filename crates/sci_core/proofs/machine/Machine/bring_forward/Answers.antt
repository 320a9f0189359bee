-- One move more leads to a reached state.
use Rattle.std.proofs.Common.{subst, sym}
use Rattle.std.specs.Prelude.{None}
use Rattle.sci_core.specs.{Core.{Core, lane_place}, Done.{LastChanges}, Network.{Overtakes}, Reached.{IsReached}}
use Rattle.sci_core.proofs.{ReachedLaws.{overtaken_effects, reached_coherent}, WellFormed.WellFormedSteps.{reachable, reached_moved}}
use Rattle.sci_core.proofs.machine.Machine.bring_forward.Goals as goal

pub invariant_of-self : goal.invariant_of-self
invariant_of-self c = subst IsReached (sym c.bring_forward.ensures)
    (reached_moved c.self.inside.state (Overtakes (lane_place c.self.inside.state.size.nodes c.args.kind c.args.from c.args.to) c.args.place) c.self.invariant)

pub returns-clause-coherent : goal.returns-clause-coherent
returns-clause-coherent c = reached_coherent c.bring_forward.new.self (subst IsReached (sym c.bring_forward.ensures)
    (reached_moved c.self.inside.state (Overtakes (lane_place c.self.inside.state.size.nodes c.args.kind c.args.from c.args.to) c.args.place) c.self.invariant))

pub returns-clause-effect : goal.returns-clause-effect
returns-clause-effect c =
    subst (λ (old : Core). LastChanges old c.bring_forward.new.self None) c.self.view_is
    (subst (λ (new : Core). LastChanges c.self.inside.state new None) (sym c.bring_forward.ensures)
    (overtaken_effects c.self.inside.state (lane_place c.self.inside.state.size.nodes c.args.kind c.args.from c.args.to) c.args.place
    (reachable c.self.inside.state c.self.invariant)))
