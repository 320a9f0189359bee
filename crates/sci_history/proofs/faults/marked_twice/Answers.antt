use Rattle.std.proofs.Common.{◌∙◌, sym, arith}
use Rattle.std.proofs.lemmas.List.{length-set}
use Rattle.sci_history.proofs.AuditFinds.{entry_at, later_here, later_more, maker_within, mark_is, marked_load, marked_maker}
use Rattle.sci_history.proofs.faults.marked_twice.Goals.{then-is_maker+else-index, else-is_maker}
use Rattle.sci_history.proofs.faults.marked_twice.Goals as goal

pub overflow_sub-mark : goal.overflow_sub-mark
overflow_sub-mark c = (maker_within c.args.entries.now c.loop-entry.entry-index c.args.makers c.loop-entry-test.true c.requires
    (sym c.is_maker.ensures ∙ c.if-is_maker.true)).0

pub index-requires : goal.index-requires
index-requires c = grind (arith, maker_within)

pub index_mut-requires : goal.index_mut-requires
index_mut-requires c = grind (arith, maker_within)

pub returns-then-index : goal.returns-then-index
returns-then-index c = grind (arith, entry_at, maker_within, mark_is, later_here)

pub loop-entry-preserved : goal.loop-entry-preserved
loop-entry-preserved c = grind (arith, entry_at, maker_within, mark_is, length-set, marked_maker, later_more, else-is_maker, marked_load)
