use Rattle.std.proofs.{Common.{◌<◌, arith, ap}, lemmas.Grind.{common_steps}}
use Rattle.sci_words.specs.declared.limits.TheConstants.{WORDS_PER_LINE}
use Rattle.sci_history.specs.declared.entry.Entry.{Entry}
use Rattle.sci_history.proofs.AuditFinds.{words_more}
use Rattle.sci_reports.specs.EntryLines.{entry_refs}
use Rattle.sci_reports.proofs.FoundEntries.{all_so, ref_at, within_refs}
use Rattle.sci_reports.proofs.faulty.contents_after.Goals.{then-from-lt-WORDS_PER_LINE, else-from-lt-WORDS_PER_LINE}
use Rattle.sci_reports.proofs.faulty.contents_after.Goals as goal

pub loop-at-preserved : goal.loop-at-preserved
loop-at-preserved c = λ within.
    let list = c.args.placed.now in
    let i = c.loop-at.at-index in
    let op = ap (λ (e : Entry). e.op) (ref_at list i c.loop-at-test.true) in
    let was = c.loop-at.invariant within in
    let more = words_more (entry_refs list) i (within_refs list i c.loop-at-test.true) in
    let fits = all_so (λ entry. entry.op.word < WORDS_PER_LINE) list i c.loop-at-test.true within in
    elim c.if-from-lt-WORDS_PER_LINE.branch [
      | then-from-lt-WORDS_PER_LINE w ↦ grind (arith, common_steps)
      | else-from-lt-WORDS_PER_LINE w ↦ absurd (omega (arith, fits, w.if-from-lt-WORDS_PER_LINE.false, c.from.ensures))
    ]
