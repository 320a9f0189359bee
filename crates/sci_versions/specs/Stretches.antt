-- Which values a word had, one after another, as far as logs show it without versions. A stretch of a value is all
-- operations that leave it, from the one that wrote it to the last that read it.
use Rattle.std.specs.Prelude.{◌≡◌, ◌<◌, ◌++◌, ℕ, true, List, [], ◌∷◌, filter}
use Rattle.sci_words.specs.Operation.{effect_of_act}
use Rattle.sci_words.specs.declared.{limits.TheConstants.{MAX_NODES}, operation.{Act.{Act}, Reply.{Reply, TheVariants.{Stored, Got}}}}
use Rattle.sci_history.specs.{Placed.{is_making, is_on_line, log_of}, Seen.{DidOn, IsAmong}, declared.entry.Entry.{Entry}}

-- the word that an operation leaves, by what it does and its reply alone: a load leaves what it read
abbrev pub left_by_act : Act → Reply → ℕ
left_by_act act Stored = (effect_of_act act 0).0
left_by_act act (Got old) = (effect_of_act act old).0

abbrev pub left_by : Entry → ℕ
left_by entry = left_by_act entry.op.act entry.reply

-- some maker on a word of a line leaves this value
abbrev pub IsWritten : List (List Entry) → (line word value : ℕ) → Type 0
IsWritten logs line word value =
    (node : ℕ) × (entry : Entry) × DidOn logs line node entry × (is_making entry ≡ true) × (entry.op.word ≡ word) × (left_by entry ≡ value)

-- a maker that changes a word to this value, so it doesn't read the value itself
pub record IsWriter (logs : List (List Entry)) (line word value node : ℕ) (entry : Entry) : Type 0 where
  pub did : DidOn logs line node entry
  pub making : is_making entry ≡ true
  pub there : entry.op.word ≡ word
  pub leaves : left_by entry ≡ value
  pub changes : entry.reply ≡ Got value → ⊥

-- a word is changed to this value at most once, and never back to 0
pub record IsWrittenOnce (logs : List (List Entry)) (line word value : ℕ) : Type 0 where
  pub once : (n m : ℕ) (x y : Entry) → IsWriter logs line word value n x → IsWriter logs line word value m y → x ≡ y
  pub never_zero : value ≡ 0 → (n : ℕ) (x : Entry) → IsWriter logs line word value n x → ⊥

-- An entry of a word stands behind another in their node's log and leaves another value. Its own value is written once.
pub record FollowsIn (logs : List (List Entry)) (line word : ℕ) (x y : Entry) : Type 0 where
  pub node : ℕ
  pub known : node < MAX_NODES
  pub before : List Entry
  pub after : List Entry
  pub logged : filter (is_on_line line) (log_of logs node) ≡ before ++ x ∷ after
  pub earlier : IsAmong y before
  pub did_here : DidOn logs line node x
  pub did_there : DidOn logs line node y
  pub here : x.op.word ≡ word
  pub there : y.op.word ≡ word
  pub differ : left_by x ≡ left_by y → ⊥
  pub once : IsWrittenOnce logs line word (left_by x)

-- Each entry follows another. That one leaves the value that the next one leaves, and the last of them the value at the end.
abbrev pub IsChain : List (List Entry) → (line word : ℕ) → List (Entry × Entry) → (end : ℕ) → Type 0
IsChain logs line word [] end = ⊥
IsChain logs line word (p ∷ []) end = FollowsIn logs line word p.0 p.1 × (left_by p.1 ≡ end)
IsChain logs line word (p ∷ q ∷ ps) end = FollowsIn logs line word p.0 p.1 × (left_by p.1 ≡ left_by q.0) × IsChain logs line word (q ∷ ps) end

-- a chain that ends with the value with which it begins: the stretches of a word go round in a cycle
abbrev pub IsCycle : List (List Entry) → (line word : ℕ) → List (Entry × Entry) → Type 0
IsCycle logs line word [] = ⊥
IsCycle logs line word (p ∷ ps) = IsChain logs line word (p ∷ ps) (left_by p.0)
