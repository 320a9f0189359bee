-- Lines of logs are short.
use Rattle.std.proofs.Common.{◌≡◌, ℕ, ◌+◌, ◌*◌, ◌^◌, ◌<◌, ◌≤◌, List, [], ◌∷◌, ◌++◌, length, arith}
use Rattle.std.proofs.lemmas.List.{length-append, Elements.{recursion_from_All}}
use Rattle.std.specs.{Prelude.{codes}, List.{flat_map, AllByRecursion}}
use Rattle.sci_words.specs.declared.{operation.Reply.{Reply, TheVariants.{Stored, Got}}, stamped.Stamped.{Stamped}}
use Rattle.sci_history.specs.declared.entry.Entry.{Entry}
use Rattle.sci_text.specs.Number.{number, field}
use Rattle.sci_text.specs.Log.{reply_text, version_text, log_line, last_line, issue_text, outcome_text, entry_line}
use Rattle.sci_text.specs.{LogValue.{IsSize, ReplyFits}, FirstFault.{IsShort}}
use Rattle.sci_text.proofs.{LogReads.{EntryReads}, LogFronts.{GoodLast}, Numbers.{number_short, field_short}}
use Rattle.sci_text.proofs.Operations.{operation_short}

version_short : (version : ℕ) → version < 2 ^ 64 → length (version_text version) ≤ 22
unfolding version_text
version_short version h = omega (arith, length-append (codes " @") (number version), number_short version h)

words_short : (words : List ℕ) → AllByRecursion (λ word. word < 2 ^ 64) words → length (flat_map field words) ≤ 21 * length words
words_short [] h = omega arith
words_short (w ∷ words) h = omega (arith, length-append (field w) (flat_map field words), field_short w h.0, words_short words h.1)

last_parts : (a b c d : List ℕ) → length (a ++ (b ++ (c ++ (d ++ 10 ∷ [])))) ≡ length a + length b + length c + length d + 1
last_parts a b c d = grind (arith, length-append)

pub last_short : (line : ℕ) (stamped : Stamped) → line < 2 ^ 64 → GoodLast stamped → IsShort (last_line line stamped)
unfolding last_line
last_short line stamped low good =
    let words = words_short stamped.line (recursion_from_All (λ word. word < 2 ^ 64) stamped.line good.1.words) in
    omega (
      arith,
      last_parts (codes "last") (field line) (version_text stamped.version) (flat_map field stamped.line),
      field_short line low,
      version_short stamped.version good.1.version,
      words,
      good.0,
    )

reply_short : (reply : Reply) → ReplyFits reply → length (reply_text reply) ≤ 20
reply_short Stored h = omega arith
reply_short (Got word) h = number_short word h

entry_parts : (a b c d f g : List ℕ)
    → length ((a ++ (b ++ (codes " " ++ c))) ++ ((codes " = " ++ (d ++ f)) ++ g)) ≡ length a + length b + length c + length d + length f + length g + 4
entry_parts a b c d f g = grind (arith, length-append)

pub entry_short : (entry : Entry) → EntryReads entry → IsShort (entry_line entry)
unfolding entry_line issue_text outcome_text
entry_short entry h = grind (arith, entry_parts, number_short, field_short, operation_short, reply_short, version_short)

pub size_short : (nodes lines : ℕ) → IsSize nodes lines → IsShort (log_line nodes lines)
unfolding log_line
size_short nodes lines size = grind (arith, length-append, field_short)
