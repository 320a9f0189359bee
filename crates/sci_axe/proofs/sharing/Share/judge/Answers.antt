use Rattle.std.proofs.Common.{subst, sym, arith}
use Rattle.sci_axe.specs.Parts.{ArePartExplained}
use Rattle.sci_axe.proofs.Parts.{explained_in_whole, fault_in_whole, part_known}
use Rattle.sci_axe.proofs.sharing.Share.judge.Goals as goal

pub judge-requires : goal.judge-requires
judge-requires c =
    let share = c.args.self.now in
    part_known share.way.timed share.cuts.now c.args.part share.trace.now c.in_ok-part.field-0 c.in_ok-part.ensures c.requires

pub returns-in-Coherent : goal.returns-in-Coherent
returns-in-Coherent c =
    let share = c.args.self.now in
    subst (ArePartExplained share.way.timed share.cuts.now c.args.part share.trace.now) (sym c.keep.ensures)
    (explained_in_whole share.way.timed share.cuts.now c.args.part share.trace.now c.in_ok-part.field-0 c.in_ok-part.ensures c.in-Coherent.sites.items
    (rw c.in-Coherent.is at c.in_ok-fault.ensures))

pub returns : goal.returns
returns c = grind (arith, fault_in_whole)
