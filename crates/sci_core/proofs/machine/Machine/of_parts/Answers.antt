-- The parts are those of a reached state.
use Rattle.std.proofs.Common.{sym, subst}
use Rattle.sci_core.specs.{Coherent.{IsCoherent}, Core.{core_of}}
use Rattle.sci_core.proofs.{ReachedLaws.{reached_coherent}, WellFormed.WellFormedSteps.{reached_well}}
use Rattle.sci_core.proofs.machine.Machine.of_parts.Goals as goal

pub of_parts-requires : goal.of_parts-requires
of_parts-requires c = (reached_well (core_of c.args.extent c.args.limit c.args.nodes.items c.args.lanes.items) c.requires).sizes

pub returns-clause-coherent : goal.returns-clause-coherent
returns-clause-coherent c = subst IsCoherent (sym c.of_parts.ensures)
    (reached_coherent (core_of c.args.extent c.args.limit c.args.nodes.items c.args.lanes.items) c.requires)
