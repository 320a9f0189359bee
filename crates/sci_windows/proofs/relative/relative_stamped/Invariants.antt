use Rattle.std.proofs.Common.{◌≡◌, ℕ, ◌<◌, length, get_or}
use Rattle.sci_windows.specs.Relative.{swapped}
use Rattle.sci_windows.proofs.relative.relative_stamped.Given as goal

-- the words so far are relative
abbrev pub invariant-loop-word : goal.invariant-loop-word
invariant-loop-word l = record {
  long : length l.line ≡ length l.stamped.line;
  made : (k : ℕ) → k < l.word → get_or l.line k 0 ≡ swapped (get_or l.first.line k 0) (get_or l.stamped.line k 0);
}
