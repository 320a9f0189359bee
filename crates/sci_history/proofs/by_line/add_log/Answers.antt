use Rattle.std.proofs.{Common.{◌<◌, [], length, get_or, ◌∙◌, arith, refl}, lemmas.List.{length-set}}
use Rattle.sci_history.specs.Audit.{lists_of}
use Rattle.sci_history.proofs.{AuditFinds.{no_entry}, ByLine.{list_more}}
use Rattle.sci_history.proofs.by_line.add_log.Goals as goal

pub loop-entry-preserved : goal.loop-entry-preserved
loop-entry-preserved c =
    let lists = c.loop-entry.lists.items in
    let log = c.args.log.now in
    let within = c.requires c.loop-entry.entry-index no_entry c.loop-entry-test.true in
    let below : (get_or log c.loop-entry.entry-index no_entry).op.line < length lists = omega (arith, within.0, c.loop-entry.invariant.lines) in
    record {
      lines = length-set c.loop-entry.lists.items _ _ ∙ c.loop-entry.invariant.lines;
      added = λ line low.
          list_more lists log (get_or (lists_of c.args.lists.now.items) line []) c.loop-entry.entry-index line c.index_mut.result.now c.push.new.self _
          c.loop-entry-test.true refl below c.index_mut.ensures.value c.in_ok-push.ensures.items (c.loop-entry.invariant.added line low);
    }
