-- Whether a line is too long, from the bytes that stand behind it.
use Rattle.std.proofs.{Common.{◌≡◌, ℕ, ◌+◌, ◌<◌, ◌≤◌, List, ◌++◌, length, ap, arith}, lemmas.List.{length-append}}
use Rattle.sci_words.specs.declared.limits.TheConstants.{MAX_TEXT_LINE_BYTES}
use Rattle.sci_text.specs.FirstFault.{IsShort}

pub line_short : (bytes line rest : List ℕ) → bytes ≡ line ++ rest → length bytes ≤ length rest + MAX_TEXT_LINE_BYTES + 1 → IsShort line
line_short bytes line rest e short = omega (arith, ap length e, length-append line rest)

pub line_long : (bytes line rest : List ℕ) → bytes ≡ line ++ rest → length rest + MAX_TEXT_LINE_BYTES + 1 < length bytes → IsShort line → ⊥
line_long bytes line rest e long short = absurd (omega (arith, ap length e, length-append line rest))
