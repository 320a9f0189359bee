-- Where a value comes from.
use Rattle.std.proofs.Common.{◌≡◌, ◌≢◌, ◌⊎◌, ℕ, zero, suc, ◌<◌, ◌≤◌, List, length, sym, ◌∙◌, arith, inl, inr}
use Rattle.sci_words.specs.declared.{limits.TheConstants.{MAX_NODES, WORDS_PER_LINE}, operation.{Act.TheVariants.{Load}, Reply.TheVariants.{Got}}}
use Rattle.sci_words.specs.declared.stamped.Stamped.{Stamped}
use Rattle.sci_history.proofs.Consequences.{loaded}
use Rattle.sci_history.specs.{Lawful.{Lawful}, Memory.{stamped_at}, Placed.{AreOwn}, Seen.{DidOn}, declared.entry.Entry.{Entry}}
use Rattle.sci_versions.{proofs.Words.{IsLine, is_placed, word_at, word_step, zero_at_start}, specs.Stretches.{IsWritten}}

-- the word at a version is 0, or some maker left it
pub word_from : (logs : List (List Entry)) (line word : ℕ) (last : Stamped) (version : ℕ) → IsLine logs line word last → version ≤ last.version
    → (word_at logs line word version ≡ 0) ⊎ IsWritten logs line word (word_at logs line word version)
word_from logs line word last zero is within = inl (zero_at_start logs line word last is)
word_from logs line word last (suc version) is within = elim (word_step logs line word version last is within) [
  | inl (z, made) ↦ inr (z.node, z, made.did, made.making, made.there, made.leaves)
  | inr kept ↦ elim (word_from logs line word last version is (omega arith)) [
    | inl none ↦ inl (kept ∙ none)
    | inr w ↦ inr (w.0, w.1, w.2, w.3, w.4, w.5 ∙ sym kept)
  ]
]

pub value_written : (logs : List (List Entry)) (last : List Stamped) (line node value : ℕ) (entry : Entry) → AreOwn logs → length logs ≡ MAX_NODES
    → Lawful logs last → DidOn logs line node entry → entry.op.act ≡ Load → entry.op.word < WORDS_PER_LINE → entry.reply ≡ Got value → value ≢ 0
    → IsWritten logs line entry.op.word value
value_written logs last line node value entry own sixteen lawful did load small reply some =
    let end = stamped_at last line in
    let is : IsLine logs line entry.op.word end = record { own = own; sixteen = sixteen; lawful = lawful line; small = small } in
    let here = is_placed logs line node end entry own sixteen (lawful line) did in
    let reads = loaded logs line end entry own sixteen (lawful line) here.among load in
    let same : word_at logs line entry.op.word entry.version ≡ value = cc in
    elim (word_from logs line entry.op.word end entry.version is here.within) [
      | inl none ↦ absurd (some (sym same ∙ none))
      | inr w ↦ (w.0, w.1, w.2, w.3, w.4, w.5 ∙ same)
    ]
