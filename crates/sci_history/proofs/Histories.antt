-- What a line's history says of its versions and of the words at each version.
use Rattle.std.proofs.Common.{◌≡◌, ℕ, suc, ◌+◌, ◌<◌, ◌≤◌, true, false, eqb, List, [], ◌∷◌, length, get_or, set, refl, sym, ap, ◌∙◌, arith, inl, inr}
use Rattle.std.proofs.lemmas.Bool.{cases_Bool, cases_lt, eq-eqb, ne_eqb, le-leb, lt-leb, and_from, and_left, and_right}
use Rattle.std.proofs.lemmas.List.{set-get_or}
use Rattle.std.specs.{Prelude.{IsTrue}, List.{filter, AllByRecursion}}
use Rattle.sci_words.specs.declared.operation.{Op.{Op}, Act.{Act, TheVariants.{Load, Store, Lock}}}
use Rattle.sci_words.specs.declared.stamped.Stamped.{Stamped}
use Rattle.sci_words.specs.Operation.{effect_of_act, is_maker, makes_version as is_making_act}
use Rattle.sci_words.specs.Stamped.{line_after, after, reply_of}
use Rattle.sci_history.specs.{declared.entry.Entry.{Entry}, Placed.{is_making, makes}, History.{IsHistory, words_at}}
use Rattle.sci_history.proofs.Order.{IsInOrder, filter_yes, filter_no, filter_none, all_weaker, all_both}
use Rattle.sci_history.proofs.Placement.{place}

-- ---- one step

-- a load leaves the line
line_after-load_act : (words : List ℕ) (word : ℕ) (act : Act) → is_making_act act ≡ false → set words word (effect_of_act act (get_or words word 0)).0 ≡ words
line_after-load_act words word Load e = set-get_or words word 0
line_after-load_act words word (Store x) e = absurd cc
line_after-load_act words word (Lock l) e = absurd cc

pub line_after-load : (words : List ℕ) (op : Op) → is_maker op ≡ false → line_after words op ≡ words
line_after-load words op e = line_after-load_act words op.word op.act e

pub version-load : (old : Stamped) (op : Op) → is_maker op ≡ false → (after old op).version ≡ old.version
version-load old op e = rw e refl

pub version-maker : (old : Stamped) (op : Op) → is_maker op ≡ true → (after old op).version ≡ old.version + 1
version-maker old op e = rw e refl

pub version-grows : (old : Stamped) (op : Op) → old.version ≤ (after old op).version
version-grows old op = grind (arith, cases_Bool)

-- ---- versions along a history

pub versions-after : (entries : List Entry) (old new : Stamped) → IsHistory entries old new → AllByRecursion (λ entry. old.version ≤ entry.version) entries
versions-after [] old new h = tt
versions-after (entry ∷ entries) old new h = grind (arith, version-grows, all_weaker, versions-after entries (after old entry.op) new h.2)

pub version-end : (entries : List Entry) (old new : Stamped) → IsHistory entries old new → old.version ≤ new.version
version-end [] old new h = let e : new.version ≡ old.version = ap (λ (s : Stamped). s.version) h in omega arith
version-end (entry ∷ entries) old new h = grind (arith, version-grows, version-end entries (after old entry.op) new h.2)

pub versions-within : (entries : List Entry) (old new : Stamped) → IsHistory entries old new → AllByRecursion (λ entry. entry.version ≤ new.version) entries
versions-within [] old new h = tt
versions-within (entry ∷ entries) old new h =
    let is = h.1 in
    let rest = version-end entries (after old entry.op) new h.2 in
    (omega arith, versions-within entries (after old entry.op) new h.2)

-- each maker's version is above the version before it
pub makers-after : (entries : List Entry) (old new : Stamped) → IsHistory entries old new
    → AllByRecursion (λ entry. IsTrue (is_making entry) → old.version < entry.version) entries
makers-after [] old new h = tt
makers-after (entry ∷ entries) old new h = grind (arith, version-grows, version-maker, all_weaker, makers-after entries (after old entry.op) new h.2)

-- how many makers there are
pub makers-counted : (entries : List Entry) (old new : Stamped) → IsHistory entries old new → length (filter is_making entries) + old.version ≡ new.version
makers-counted [] old new h = let e : new.version ≡ old.version = ap (λ (s : Stamped). s.version) h in omega arith
makers-counted (entry ∷ entries) old new h =
    grind (arith, cases_Bool, version-maker, filter_yes, version-load, filter_no, makers-counted entries (after old entry.op) new h.2)

place-next : (entry other : Entry) → entry.version ≤ other.version → (IsTrue (is_making other) → entry.version < other.version) → place entry ≤ place other
place-next entry other le above = grind (arith, cases_Bool)

-- entries stand by version, and each maker before the loads at its version
pub places-rise : (entries : List Entry) (old new : Stamped) → IsHistory entries old new → IsInOrder place entries
places-rise [] old new h = tt
places-rise (entry ∷ entries) old new h =
    let mid = after old entry.op in
    let is = h.1 in (
      all_weaker (λ e. (mid.version ≤ e.version) × (IsTrue (is_making e) → mid.version < e.version)) (λ e. place entry ≤ place e)
          (λ e facts. let le = facts.0 in
          place-next entry e (omega arith) (λ maker. let lt = facts.1 maker in omega arith)) entries
          (all_both (λ e. mid.version ≤ e.version) (λ e. IsTrue (is_making e) → mid.version < e.version) entries (versions-after entries mid new h.2)
          (makers-after entries mid new h.2)),
      places-rise entries mid new h.2,
    )

-- ---- the one maker of a version

-- a maker's version is no later maker's
only_maker : (entry : Entry) (entries : List Entry) (old new : Stamped) (version : ℕ) → IsHistory (entry ∷ entries) old new → old.version < version
    → version ≤ (after old entry.op).version → filter (makes version) (entry ∷ entries) ≡ entry ∷ []
only_maker entry entries old new version h above here =
    grind (arith, all_weaker, cases_Bool, and_right, ne_eqb, and_left, makers-after, version-maker, filter_yes, and_from, eq-eqb, filter_none, version-load)

pub maker_of : (entries : List Entry) (old new : Stamped) (version : ℕ) → IsHistory entries old new → old.version < version → version ≤ new.version
    → (maker : Entry) × (filter (makes version) entries ≡ maker ∷ [])
maker_of [] old new version h above below = let e : new.version ≡ old.version = ap (λ (s : Stamped). s.version) h in absurd (omega arith)
maker_of (entry ∷ entries) old new version h above below =
    let mid = after old entry.op in
    let is = h.1 in
    elim (cases_lt mid.version version) [
      | inl later ↦
          let rest = maker_of entries mid new version h.2 later below in
          let other : makes version entry ≡ false =
          and_right (is_making entry) (eqb entry.version version) (ne_eqb entry.version version (λ e. absurd (omega arith))) in
          (rest.0, filter_no (makes version) entry entries other ∙ rest.1)
      | inr here ↦ (entry, only_maker entry entries old new version h above here)
    ]

-- ---- the words at each version

-- an entry agrees with the words at each version
pub record Agrees (words : ℕ → List ℕ) (entry : Entry) : Type 0 where
  pub made : (version : ℕ) → is_making entry ≡ true → entry.version ≡ suc version
      → (entry.reply ≡ reply_of (words version) entry.op) × (words (suc version) ≡ line_after (words version) entry.op)
  pub read : is_making entry ≡ false → entry.reply ≡ reply_of (words entry.version) entry.op

pub words_at-end : (entries : List Entry) (old new : Stamped) (version : ℕ) → IsHistory entries old new → new.version ≤ version
    → words_at old.line entries version ≡ new.line
words_at-end [] old new version h le = sym (ap (λ (s : Stamped). s.line) h)
words_at-end (entry ∷ entries) old new version h le =
    let mid = after old entry.op in
    let is = h.1 in
    let rest = version-end entries mid new h.2 in
    rw (le-leb entry.version version (omega arith)) (words_at-end entries mid new version h.2 le)

pub words_at-start : (entries : List Entry) (old new : Stamped) → IsHistory entries old new → words_at old.line entries old.version ≡ old.line
words_at-start [] old new h = refl
words_at-start (entry ∷ entries) old new h =
    let mid = after old entry.op in
    let is = h.1 in
    elim (cases_Bool (is_making entry)) [
      | inl maker ↦ let more = version-maker old entry.op maker in rw (lt-leb entry.version old.version (omega arith)) refl
      | inr load ↦
          let same = version-load old entry.op load in
          rw (le-leb entry.version old.version (omega arith))
          (ap (words_at mid.line entries) (sym same) ∙ words_at-start entries mid new h.2 ∙ line_after-load old.line entry.op load)
    ]

pub history-agrees : (entries : List Entry) (old new : Stamped) (words : ℕ → List ℕ) → IsHistory entries old new
    → ((version : ℕ) → old.version ≤ version → words version ≡ words_at old.line entries version) → AllByRecursion (Agrees words) entries
history-agrees [] old new words h same = tt
history-agrees (entry ∷ entries) old new words h same =
    let mid = after old entry.op in
    let is = h.1 in
    let grows = version-grows old entry.op in
    let start : words old.version ≡ old.line = same old.version (omega arith) ∙ words_at-start (entry ∷ entries) old new h in
    let later : (version : ℕ) → mid.version ≤ version → words version ≡ words_at mid.line entries version =
    λ version le. same version (omega arith) ∙ rw (le-leb entry.version version (omega arith)) refl in
    let end : words mid.version ≡ mid.line = later mid.version (omega arith) ∙ words_at-start entries mid new h.2 in (
      record {
        made = λ version maker e.
            let more = version-maker old entry.op maker in
            let at_old : words version ≡ old.line = ap words (omega arith) ∙ start in
            let at_mid : words (suc version) ≡ mid.line = ap words (omega arith) ∙ end in
            (h.0 ∙ ap (λ w. reply_of w entry.op) (sym at_old), at_mid ∙ ap (λ w. line_after w entry.op) (sym at_old));
        read = λ load.
            let unchanged = version-load old entry.op load in
            let at_old : words entry.version ≡ old.line = ap words (omega arith) ∙ start in
            h.0 ∙ ap (λ w. reply_of w entry.op) (sym at_old);
      },
      history-agrees entries mid new words h.2 later,
    )
