-- A reached state is well formed and tidy, and each of its lines has its shape.
use Rattle.std.proofs.Common.{◌<◌, subst, sym}
use Rattle.sci_core.specs.Core.{Core}
use Rattle.sci_core.proofs.{WellFormed.WellFormedSteps.{reached_well}, Tidy.TidyRuns.{reached_tidy}}
use Rattle.sci_core.proofs.ReachedLaws.{reached_shapes}
use Rattle.sci_core.proofs.machine.Machine.sharing.Goals as goal

pub sharing-requires : goal.sharing-requires
sharing-requires c =
    let core = c.self.inside.state in
    let line = subst (λ (k : Core). c.args.line < k.size.lines) (sym c.self.view_is) c.requires in
    record {
      well = reached_well core c.self.invariant;
      tidy = reached_tidy core c.self.invariant;
      shape = reached_shapes core c.self.invariant c.args.line line;
      line = line;
    }
