use Rattle.std.proofs.Common.{◌≡◌, ℕ, ◌<◌, length, get_or}
use Rattle.sci_words.specs.Stamped.{zero_stamped}
use Rattle.sci_text.proofs.log_lines.last_of.Given as goal

-- the lines so far
abbrev pub invariant-loop-line : goal.invariant-loop-line
invariant-loop-line l = record {
  long : length l.last.value ≡ length l.contents;
  same : (k : ℕ) → k < l.line → get_or l.last.value k zero_stamped ≡ get_or l.contents k zero_stamped;
}
