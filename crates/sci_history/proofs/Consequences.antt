-- What follows from lawfulness for a reader or writer of a line: the words at each version explain all entries.
use Rattle.std.proofs.Common.{◌≡◌, ◌≢◌, ℕ, zero, suc, ◌+◌, ◌-◌, ◌<◌, ◌≤◌, Bool, true, false, cond, eqb, List, [], ◌∷◌, length, get_or, length-set, refl}
use Rattle.std.proofs.Common.{sym, ap, ◌∙◌, subst, arith, inl, inr}
use Rattle.std.proofs.lemmas.{Bool.{cases_Bool, eq-eqb, eqb-true, and_parts}, List.{get_or-set_same, get_or-set_other}}
use Rattle.std.specs.{Prelude.{IsTrue}, List.{filter, AllByRecursion}}
use Rattle.sci_words.specs.declared.{limits.TheConstants.{MAX_NODES, WORDS_PER_LINE}, operation.Act.{Act}}
use Rattle.sci_words.specs.declared.operation.{Act.TheVariants.{Load, Store}, Op.{Op}, Reply.TheVariants.{Got}}
use Rattle.sci_words.specs.declared.stamped.Stamped.{Stamped}
use Rattle.sci_words.specs.Operation.{effect_of_act, makes_version as is_making_act}
use Rattle.sci_words.specs.Stamped.{line_after, zero_line, zero_stamped, reply_of}
use Rattle.sci_history.specs.{declared.entry.Entry.{Entry}, History.{IsHistory, words_at}}
use Rattle.sci_history.specs.{Lawful.{IsLawfulLine, Lawful}, Memory.{stamped_at}}
use Rattle.sci_history.specs.{Placed.{AreOwn, is_making, makes, placed}, Seen.{IsAmong, DidOn}}
use Rattle.sci_history.proofs.AuditRuns.{history_found, right_from_run, end_from_run}
use Rattle.sci_history.proofs.Audits.{nodes_on_line, all-by_version}
use Rattle.sci_history.proofs.Histories.{Agrees, history-agrees, versions-within, makers-after, maker_of}
use Rattle.sci_history.proofs.Order.{filter_yes, filter_no, all-passes}

-- ---- entries among others

pub among_all : (P : Entry → Type 0) (entry : Entry) (entries : List Entry) → AllByRecursion P entries → IsAmong entry entries → P entry
among_all P entry [] all h = elim h [ ]
among_all P entry (e ∷ entries) all (inl same) = subst P (sym same) all.0
among_all P entry (e ∷ entries) all (inr h) = among_all P entry entries all.1 h

among_more : (entry e : Entry) (xs ys : List Entry) → (IsAmong entry xs → IsAmong entry ys) → IsAmong entry (e ∷ xs) → IsAmong entry (e ∷ ys)
among_more entry e xs ys f (inl same) = inl same
among_more entry e xs ys f (inr h) = inr (f h)

pub among_filter : (p : Entry → Bool) (entry : Entry) (entries : List Entry) → p entry ≡ true → IsAmong entry entries → IsAmong entry (filter p entries)
among_filter p entry [] passes h = h
among_filter p entry (e ∷ entries) passes (inl same) = subst (IsAmong entry) (sym (filter_yes p e entries (ap p (sym same) ∙ passes))) (inl same)
among_filter p entry (e ∷ entries) passes (inr h) = grind (arith, cases_Bool, filter_yes, filter_no, among_filter p entry entries passes h)

pub among_whole : (p : Entry → Bool) (entry : Entry) (entries : List Entry) → IsAmong entry (filter p entries) → IsAmong entry entries
among_whole p entry [] h = h
among_whole p entry (e ∷ entries) h =
    elim (cases_Bool (p e)) [
      | inl yes_ ↦ among_more entry e (filter p entries) entries (among_whole p entry entries) (subst (IsAmong entry) (filter_yes p e entries yes_) h)
      | inr no_ ↦ inr (among_whole p entry entries (subst (IsAmong entry) (filter_no p e entries no_) h))
    ]

-- ---- the placed entries of a lawful line

pub placed_history : (logs : List (List Entry)) (line : ℕ) (last : Stamped) → AreOwn logs → length logs ≡ MAX_NODES → IsLawfulLine logs line last
    → IsHistory (placed logs line) zero_stamped last
placed_history logs line last own sixteen lawful = grind (arith, history_found, nodes_on_line, right_from_run, end_from_run)

-- what a node did on the line is placed
pub did_placed : (logs : List (List Entry)) (line node : ℕ) (last : Stamped) (entry : Entry) → IsLawfulLine logs line last → DidOn logs line node entry
    → IsAmong entry (placed logs line)
did_placed logs line node last entry lawful did = grind (arith, among_filter, eq-eqb, among_whole)

-- and what is placed its node did
pub placed_did : (logs : List (List Entry)) (line : ℕ) (last : Stamped) (entry : Entry) → AreOwn logs → length logs ≡ MAX_NODES → IsLawfulLine logs line last
    → IsAmong entry (placed logs line) → DidOn logs line entry.node entry
placed_did logs line last entry own sixteen lawful h =
    grind (arith, among_all, all-by_version, nodes_on_line, among_filter, eq-eqb, among_whole, eqb-true, all-passes)

-- ---- the words at each version

abbrev pub line_words : List (List Entry) → ℕ → ℕ → List ℕ
line_words logs line version = words_at zero_line (placed logs line) version

pub agreed : (logs : List (List Entry)) (line : ℕ) (last : Stamped) (entry : Entry) → AreOwn logs → length logs ≡ MAX_NODES → IsLawfulLine logs line last
    → IsAmong entry (placed logs line) → Agrees (line_words logs line) entry
agreed logs line last entry own sixteen lawful h =
    among_all (Agrees (line_words logs line)) entry (placed logs line)
    (history-agrees (placed logs line) zero_stamped last (line_words logs line) (placed_history logs line last own sixteen lawful) (λ version le. refl)) h

if_long : (b : Bool) (xs ys : List ℕ) (k : ℕ) → length xs ≡ k → length ys ≡ k → length (cond b xs ys) ≡ k
if_long true xs ys k h i = h
if_long false xs ys k h i = i

pub words_long : (words : List ℕ) (entries : List Entry) (version : ℕ) → length (words_at words entries version) ≡ length words
words_long words [] version = refl
words_long words (entry ∷ entries) version =
    grind (
      arith,
      if_long,
      words_at,
      words_long (line_after words entry.op) entries version ∙ length-set words entry.op.word (effect_of_act entry.op.act (get_or words entry.op.word 0)).0,
    )

pub load_replies : (words : List ℕ) (op : Op) → op.act ≡ Load → reply_of words op ≡ Got (get_or words op.word 0)
load_replies words op load = ap (λ (act : Act). (effect_of_act act (get_or words op.word 0)).1) load

pub loaded : (logs : List (List Entry)) (line : ℕ) (last : Stamped) (entry : Entry) → AreOwn logs → length logs ≡ MAX_NODES → IsLawfulLine logs line last
    → IsAmong entry (placed logs line) → entry.op.act ≡ Load → entry.reply ≡ Got (get_or (line_words logs line entry.version) entry.op.word 0)
loaded logs line last entry own sixteen lawful h load =
    let agrees = agreed logs line last entry own sixteen lawful h in
    agrees.read (ap is_making_act load) ∙ load_replies (line_words logs line entry.version) entry.op load

-- two loads of one word at one version get one word
pub one_word : (logs : List (List Entry)) (last : List Stamped) (line n m : ℕ) (x y : Entry) → AreOwn logs → length logs ≡ MAX_NODES → Lawful logs last
    → DidOn logs line n x → DidOn logs line m y → x.op.act ≡ Load → y.op.act ≡ Load → x.op.word ≡ y.op.word → x.version ≡ y.version → x.reply ≡ y.reply
one_word logs last line n m x y own sixteen lawful did_x did_y load_x load_y word version =
    let here = lawful line in
    let end = stamped_at last line in
    let a = loaded logs line end x own sixteen here (did_placed logs line n end x here did_x) load_x in
    let b = loaded logs line end y own sixteen here (did_placed logs line m end y here did_y) load_y in
    a ∙ (ap (λ (v : ℕ). Got (get_or (line_words logs line v) x.op.word 0)) version
    ∙ (ap (λ (w : ℕ). Got (get_or (line_words logs line y.version) w 0)) word ∙ sym b))

-- ---- a store is seen

-- no maker of a word has a version above one and up to another
abbrev NoneBetween : List (List Entry) → ℕ → ℕ → ℕ → ℕ → Type 0
NoneBetween logs line word low high = (k : ℕ) (z : Entry) → DidOn logs line k z → is_making z ≡ true → low < z.version → z.version ≤ high → z.op.word ≡ word → ⊥

-- the maker of a version
pub made_at : (logs : List (List Entry)) (line version : ℕ) (last : Stamped) → AreOwn logs → length logs ≡ MAX_NODES → IsLawfulLine logs line last → 0 < version
    → version ≤ last.version → (z : Entry) × IsAmong z (placed logs line) × (makes version z ≡ true)
made_at logs line version last own sixteen lawful some within =
    let entries = placed logs line in
    let maker = maker_of entries zero_stamped last version (placed_history logs line last own sixteen lawful) some within in
    let z = maker.0 in
    let there : IsAmong z (filter (makes version) entries) = subst (IsAmong z) (sym maker.1) (inl refl) in (
      z,
      among_whole (makes version) z entries there,
      among_all (λ e. makes version e ≡ true) z (filter (makes version) entries) (all-passes (makes version) entries) there,
    )

kept_word : (logs : List (List Entry)) (line word low : ℕ) (last : Stamped) (more : ℕ) → AreOwn logs → length logs ≡ MAX_NODES → IsLawfulLine logs line last
    → low + more ≤ last.version → NoneBetween logs line word low (low + more)
    → get_or (line_words logs line (low + more)) word 0 ≡ get_or (line_words logs line low) word 0
kept_word logs line word low last zero own sixteen lawful within none = ap (λ (v : ℕ). get_or (line_words logs line v) word 0) (omega arith)
kept_word logs line word low last (suc more) own sixteen lawful within none =
    let before = kept_word logs line word low last more own sixteen lawful (omega arith)
    (λ k z did making above below. none k z did making above (omega arith)) in
    let version = suc (low + more) in
    let made = made_at logs line version last own sixteen lawful (omega arith) (omega arith) in
    let z = made.0 in
    let parts = and_parts (is_making z) (eqb z.version version) made.2 in
    let at : z.version ≡ version = eqb-true z.version version parts.1 in
    let step = (agreed logs line last z own sixteen lawful made.1).made (low + more) parts.0 at in
    let other : word ≢ z.op.word = λ e. none z.node z (placed_did logs line last z own sixteen lawful made.1) parts.0 (omega arith) (omega arith) (sym e) in
    let kept : get_or (line_words logs line version) word 0 ≡ get_or (line_words logs line (low + more)) word 0 =
    ap (λ (ws : List ℕ). get_or ws word 0) step.1
    ∙ get_or-set_other (line_words logs line (low + more)) z.op.word word
    (effect_of_act z.op.act (get_or (line_words logs line (low + more)) z.op.word 0)).0 0 other in
    ap (λ (v : ℕ). get_or (line_words logs line v) word 0) (omega arith) ∙ (kept ∙ before)

-- the word that a store leaves at its version
stored_word : (logs : List (List Entry)) (line word : ℕ) (last : Stamped) (x : Entry) → AreOwn logs → length logs ≡ MAX_NODES → IsLawfulLine logs line last
    → IsAmong x (placed logs line) → x.op.act ≡ Store word → x.op.word < WORDS_PER_LINE → get_or (line_words logs line x.version) x.op.word 0 ≡ word
stored_word logs line word last x own sixteen lawful h store within =
    let making : is_making x ≡ true = ap is_making_act store in
    let above = among_all (λ e. IsTrue (is_making e) → 0 < e.version) x (placed logs line)
    (makers-after (placed logs line) zero_stamped last (placed_history logs line last own sixteen lawful)) h making in
    let version = x.version - 1 in
    let at : x.version ≡ suc version = omega arith in
    let words = line_words logs line version in
    let step = (agreed logs line last x own sixteen lawful h).made version making at in
    let long = words_long zero_line (placed logs line) version in
    let given = (effect_of_act x.op.act (get_or words x.op.word 0)).0 in
    ap (λ (v : ℕ). get_or (line_words logs line v) x.op.word 0) at
    ∙ (ap (λ (ws : List ℕ). get_or ws x.op.word 0) step.1
    ∙ (get_or-set_same words x.op.word given 0 (omega arith) ∙ ap (λ (act : Act). (effect_of_act act (get_or words x.op.word 0)).0) store))

pub store_seen : (logs : List (List Entry)) (last : List Stamped) (line n m word : ℕ) (x y : Entry) → AreOwn logs → length logs ≡ MAX_NODES → Lawful logs last
    → DidOn logs line n x → DidOn logs line m y → x.op.act ≡ Store word → x.op.word < WORDS_PER_LINE → y.op.act ≡ Load → y.op.word ≡ x.op.word
    → x.version ≤ y.version
    → ((k : ℕ) (z : Entry) → DidOn logs line k z → is_making z ≡ true → x.version < z.version → z.version ≤ y.version → z.op.word ≡ x.op.word → ⊥)
    → y.reply ≡ Got word
store_seen logs last line n m word x y own sixteen lawful did_x did_y store within load same later none =
    let here = lawful line in
    let end = stamped_at last line in
    let x_placed = did_placed logs line n end x here did_x in
    let y_placed = did_placed logs line m end y here did_y in
    let low = among_all (λ e. e.version ≤ end.version) y (placed logs line)
    (versions-within (placed logs line) zero_stamped end (placed_history logs line end own sixteen here)) y_placed in
    let more = y.version - x.version in
    let at : x.version + more ≡ y.version = omega arith in
    let kept = kept_word logs line x.op.word x.version end more own sixteen here (omega arith)
    (λ k z did making above below. none k z did making above (omega arith)) in
    let reads = loaded logs line end y own sixteen here y_placed load in
    let stored = stored_word logs line word end x own sixteen here x_placed store within in
    reads ∙ (ap (λ (w : ℕ). Got (get_or (line_words logs line y.version) w 0)) same
    ∙ (ap (λ (v : ℕ). Got (get_or (line_words logs line v) x.op.word 0)) (sym at) ∙ ap Got (kept ∙ stored)))
