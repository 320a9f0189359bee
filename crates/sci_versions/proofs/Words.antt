-- The words of a lawful line at each version.
use Rattle.std.proofs.Common.{◌≡◌, ◌⊎◌, ℕ, suc, ◌-◌, ◌<◌, ◌≤◌, true, false, List, length, get_or, refl, sym, ap, ◌∙◌, arith, inl, inr, eqb}
use Rattle.std.proofs.lemmas.{Bool.{and_parts, eqb-true, cases_Bool, cases_eq}, List.{get_or-set_same, get_or-set_other, get_or-replicate}}
use Rattle.std.specs.Prelude.{IsTrue}
use Rattle.sci_words.specs.{Operation.{effect_of_act, makes_version}, Stamped.{line_after, zero_line, zero_stamped}}
use Rattle.sci_words.specs.declared.limits.TheConstants.{MAX_NODES, WORDS_PER_LINE}
use Rattle.sci_words.specs.declared.{operation.{Act.{Act, TheVariants.{Load, Store, Lock}}, Reply.TheVariants.{Got}}, stamped.Stamped.{Stamped}}
use Rattle.sci_history.proofs.Consequences.{line_words, words_long, made_at, placed_did, placed_history, agreed, did_placed, among_all}
use Rattle.sci_history.proofs.Histories.{versions-within, words_at-start, makers-after}
use Rattle.sci_history.specs.{Lawful.{IsLawfulLine}, Placed.{AreOwn, is_making, placed}, Seen.{DidOn, IsAmong}, declared.entry.Entry.{Entry}}
use Rattle.sci_versions.specs.Stretches.{left_by, left_by_act}

-- the logs of a lawful line
pub record IsLine (logs : List (List Entry)) (line word : ℕ) (last : Stamped) : Type 0 where
  pub own : AreOwn logs
  pub sixteen : length logs ≡ MAX_NODES
  pub lawful : IsLawfulLine logs line last
  pub small : word < WORDS_PER_LINE

-- a word of the line at a version
abbrev pub word_at : List (List Entry) → (line word version : ℕ) → ℕ
word_at logs line word version = get_or (line_words logs line version) word 0

pub got_old : (act : Act) (old value : ℕ) → (effect_of_act act old).1 ≡ Got value → old ≡ value
got_old Load old value e = cc
got_old (Store word) old value e = absurd cc
got_old (Lock lock) old value e = cc

unchanged : (act : Act) (old : ℕ) → makes_version act ≡ false → (effect_of_act act old).0 ≡ old
unchanged Load old e = refl
unchanged (Store word) old e = absurd cc
unchanged (Lock lock) old e = absurd cc

pub zero_at_start : (logs : List (List Entry)) (line word : ℕ) (last : Stamped) → IsLine logs line word last → word_at logs line word 0 ≡ 0
zero_at_start logs line word last is =
    ap (λ (ws : List ℕ). get_or ws word 0) (words_at-start (placed logs line) zero_stamped last (placed_history logs line last is.own is.sixteen is.lawful))
    ∙ get_or-replicate 8 word 0 0 is.small

-- what an operation leaves, by its reply
left : (act : Act) (old : ℕ) → left_by_act act (effect_of_act act old).1 ≡ (effect_of_act act old).0
left Load old = refl
left (Store word) old = refl
left (Lock lock) old = refl

-- what an entry leaves is the word at its version
pub leaves_at : (logs : List (List Entry)) (line word : ℕ) (last : Stamped) (entry : Entry) → IsLine logs line word last → IsAmong entry (placed logs line)
    → entry.op.word ≡ word → word_at logs line word entry.version ≡ left_by entry
leaves_at logs line word last entry is among here =
    let agrees = agreed logs line last entry is.own is.sixteen is.lawful among in
    elim (cases_Bool (is_making entry)) [
      | inl making ↦
          let above = among_all (λ e. IsTrue (is_making e) → 0 < e.version) entry (placed logs line)
          (makers-after (placed logs line) zero_stamped last (placed_history logs line last is.own is.sixteen is.lawful)) among making in
          let version = entry.version - 1 in
          let at : entry.version ≡ suc version = omega arith in
          let words = line_words logs line version in
          let step = agrees.made version making at in
          let long = words_long zero_line (placed logs line) version in
          let small = is.small in
          let given = (effect_of_act entry.op.act (get_or words entry.op.word 0)).0 in
          ap (λ (v : ℕ). word_at logs line word v) at
          ∙ (ap (λ (ws : List ℕ). get_or ws word 0) step.1
          ∙ (ap (λ (w : ℕ). get_or (line_after words entry.op) w 0) (sym here)
          ∙ (get_or-set_same words entry.op.word given 0 (omega arith)
          ∙ sym (ap (left_by_act entry.op.act) step.0 ∙ left entry.op.act (get_or words entry.op.word 0)))))
      | inr load ↦
          let old = get_or (line_words logs line entry.version) entry.op.word 0 in
          ap (λ (w : ℕ). word_at logs line w entry.version) (sym here)
          ∙ sym (ap (left_by_act entry.op.act) (agrees.read load) ∙ left entry.op.act old ∙ unchanged entry.op.act old load)
    ]

-- an entry of the line, with its version
pub record IsPlaced (logs : List (List Entry)) (line : ℕ) (last : Stamped) (entry : Entry) : Type 0 where
  pub among : IsAmong entry (placed logs line)
  pub within : entry.version ≤ last.version

pub is_placed : (logs : List (List Entry)) (line node : ℕ) (last : Stamped) (entry : Entry) → AreOwn logs → length logs ≡ MAX_NODES
    → IsLawfulLine logs line last → DidOn logs line node entry → IsPlaced logs line last entry
is_placed logs line node last entry own sixteen lawful did =
    let there = did_placed logs line node last entry lawful did in record {
      among = there;
      within = among_all (λ e. e.version ≤ last.version) entry (placed logs line)
          (versions-within (placed logs line) zero_stamped last (placed_history logs line last own sixteen lawful)) there;
    }

-- ---- from one version to the next

-- the maker of the next version, if it is at this word
pub record IsMadeAt (logs : List (List Entry)) (line word version : ℕ) (entry : Entry) : Type 0 where
  pub did : DidOn logs line entry.node entry
  pub making : is_making entry ≡ true
  pub there : entry.op.word ≡ word
  pub at : entry.version ≡ suc version
  pub replied : entry.reply ≡ (effect_of_act entry.op.act (word_at logs line word version)).1
  pub leaves : left_by entry ≡ word_at logs line word (suc version)

-- a maker at another word changes nothing at this one
pub word_step : (logs : List (List Entry)) (line word version : ℕ) (last : Stamped) → IsLine logs line word last → suc version ≤ last.version
    → ((entry : Entry) × IsMadeAt logs line word version entry) ⊎ (word_at logs line word (suc version) ≡ word_at logs line word version)
word_step logs line word version last is within =
    let made = made_at logs line (suc version) last is.own is.sixteen is.lawful (omega arith) within in
    let z = made.0 in
    let parts = and_parts (is_making z) (eqb z.version (suc version)) made.2 in
    let at : z.version ≡ suc version = eqb-true z.version (suc version) parts.1 in
    let step = (agreed logs line last z is.own is.sixteen is.lawful made.1).made version parts.0 at in
    let words = line_words logs line version in
    elim (cases_eq z.op.word word) [
      | inl same ↦ inl (
        z,
        record {
          did = placed_did logs line last z is.own is.sixteen is.lawful made.1;
          making = parts.0;
          there = same;
          at = at;
          replied = step.0 ∙ ap (λ (w : ℕ). (effect_of_act z.op.act (get_or words w 0)).1) same;
          leaves = sym (leaves_at logs line word last z is made.1 same) ∙ ap (λ (v : ℕ). word_at logs line word v) at;
        },
      )
      | inr differs ↦ inr (ap (λ (ws : List ℕ). get_or ws word 0) step.1 ∙ get_or-set_other words z.op.word word _ 0 (λ e. differs (sym e)))
    ]
