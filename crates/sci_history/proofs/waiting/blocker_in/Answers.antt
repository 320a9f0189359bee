use Rattle.std.proofs.Common.{sym, ◌∙◌, arith}
use Rattle.sci_history.proofs.{Cycles.{got}, Waits.{none_more}}
use Rattle.sci_history.proofs.waiting.blocker_in.Goals as goal

pub loop-place-preserved : goal.loop-place-preserved
loop-place-preserved c = record {
  begun = let begun = c.loop-place.invariant.begun in omega arith;
  none = none_more c.args.entry.now c.args.log.now c.args.from c.loop-place.place (sym c.reason_after.ensures ∙ c.in_default.is) c.loop-place.invariant.none;
}

pub returns-clause-none : goal.returns-clause-none
returns-clause-none c e place other le at = grind (arith, got)
