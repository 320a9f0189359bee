use Rattle.std.proofs.Common.{◌≡◌, ◌<◌, ℕ, None, get_or, length, take}
use Rattle.std.specs.Prelude.{All}
use Rattle.sci_words.specs.declared.limits.TheConstants.{WORDS_PER_LINE}
use Rattle.sci_history.specs.Audit.{is_reply_wrong, words_after}
use Rattle.sci_reports.specs.EntryLines.{entries_in}
use Rattle.sci_reports.specs.Faulty.{IsLast, makes_word}
use Rattle.sci_reports.proofs.FoundEntries.{NoneFails}
use Rattle.sci_reports.proofs.faulty.wrong.Given as goal

-- a place for each word, with the last entry that made it; the words are those after the entries so far, whose replies are right
abbrev pub invariant-loop-at : goal.invariant-loop-at
invariant-loop-at l = record {
  places : length l.makers ≡ WORDS_PER_LINE;
  words : All (λ entry. entry.op.word < WORDS_PER_LINE) (entries_in l.placed) → l.line ≡ words_after (take l.at-index (entries_in l.placed));
  makers : All (λ entry. entry.op.word < WORDS_PER_LINE) (entries_in l.placed) → (word : ℕ) → word < WORDS_PER_LINE
      → IsLast (makes_word word) (take l.at-index l.placed) (get_or l.makers word None);
  right : All (λ entry. entry.op.word < WORDS_PER_LINE) (entries_in l.placed) → NoneFails is_reply_wrong l.placed l.at-index;
}
