use Rattle.std.proofs.{Common.{◌<◌, arith}, lemmas.Grind.{common_steps}}
use Rattle.sci_words.specs.declared.limits.TheConstants.{WORDS_PER_LINE}
use Rattle.sci_history.proofs.AuditFinds.{entry_at, later_here, later_more, words_more, all_at}
use Rattle.sci_history.proofs.faults.replayed.Goals as goal

pub word-requires : goal.word-requires
word-requires c = all_at (λ entry. entry.op.word < WORDS_PER_LINE) c.args.placed.now c.loop-entry.entry-index c.loop-entry-test.true c.requires

pub with-line-requires : goal.with-line-requires
with-line-requires c = all_at (λ entry. entry.op.word < WORDS_PER_LINE) c.args.placed.now c.loop-entry.entry-index c.loop-entry-test.true c.requires

pub returns-then-not-answers-clause-wrong : goal.returns-then-not-answers-clause-wrong
returns-then-not-answers-clause-wrong c = grind (arith, entry_at, common_steps, later_here)

pub loop-entry-preserved : goal.loop-entry-preserved
loop-entry-preserved c = grind (arith, words_more, entry_at, common_steps, later_more)
