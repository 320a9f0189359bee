use Rattle.std.proofs.Common.{◌≡◌, ◌<◌, ◌^◌, ℕ, length, get_or}
use Rattle.sci_words.specs.declared.limits.TheConstants.{WORDS_PER_LINE}
use Rattle.sci_packets.proofs.contents.read_words.Given as goal

abbrev pub invariant-loop-i : goal.invariant-loop-i
invariant-loop-i l = record {
  fits : (k : ℕ) → k < l.i → get_or l.line k 0 < 2 ^ 64;
  width : 0 < l.i → length l.line ≡ WORDS_PER_LINE;
}
