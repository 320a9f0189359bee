-- The opening is where the schedule without events leads.
use Rattle.std.proofs.Common.{[], sym, subst}
use Rattle.sci_core.specs.{Coherent.{IsCoherent}, Core.{opening}, Size.{IsMachineSize, size_of}}
use Rattle.sci_core.proofs.{Tidy.TidyRuns.{run_reached}, ReachedLaws.{reached_coherent}}
use Rattle.sci_core.proofs.machine.Machine.new.Goals as goal

pub returns-clause-coherent : goal.returns-clause-coherent
returns-clause-coherent c =
    let extent = c.args.extent in
    let sizes : IsMachineSize (size_of extent c.args.limit) = record {
      extent = record {
        has_node = extent.has_node;
        few_nodes = extent.few_nodes;
        has_line = extent.has_line;
        few_lines = extent.few_lines;
        has_slot = extent.has_slot;
        few_slots = extent.few_slots;
      };
      some_operation = c.requires.some;
      few_operations = c.requires.few;
    } in
    let opening_coherent = reached_coherent (opening (size_of extent c.args.limit)) (run_reached (size_of extent c.args.limit) [] sizes) in
    subst IsCoherent (sym c.in_ok-new.ensures) opening_coherent
