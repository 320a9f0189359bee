use Rattle.std.proofs.Common.{◌≡◌, ◌<◌, take}
use Rattle.std.specs.Prelude.{All}
use Rattle.sci_words.specs.declared.limits.TheConstants.{WORDS_PER_LINE}
use Rattle.sci_history.specs.Audit.{words_after}
use Rattle.sci_reports.specs.EntryLines.{entries_in}
use Rattle.sci_reports.proofs.faulty.contents_after.Given as goal

-- the words after the entries so far
abbrev pub invariant-loop-at : goal.invariant-loop-at
invariant-loop-at l = All (λ entry. entry.op.word < WORDS_PER_LINE) (entries_in l.placed) → l.line ≡ words_after (take l.at-index (entries_in l.placed))
