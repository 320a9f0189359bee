use Rattle.std.proofs.Common.{◌≡◌, ℕ, ◌<◌, length}
use Rattle.sci_words.specs.declared.limits.TheConstants.{WORDS_PER_LINE}
use Rattle.sci_history.specs.Memory.{stamped_at}
use Rattle.sci_windows.specs.Relative.{relative_stamped}
use Rattle.sci_windows.proofs.relative.put_relative.Given as goal

-- the lines so far are relative
abbrev pub invariant-loop-line : goal.invariant-loop-line
invariant-loop-line l = record {
  long : length l.made ≡ length l.contents;
  made : (k : ℕ) → k < l.line → stamped_at l.made k ≡ relative_stamped (stamped_at l.first k) (stamped_at l.contents k);
  first : (k : ℕ) → k < l.line → length (stamped_at l.first k).line ≡ WORDS_PER_LINE;
  lines : (k : ℕ) → k < l.line → length (stamped_at l.contents k).line ≡ WORDS_PER_LINE;
}
