-- What an audit's third kind says: placed entries are a history, once their versions are whole.
use Rattle.std.proofs.Common.{◌≡◌, ℕ, zero, suc, ◌+◌, ◌<◌, ◌≤◌, true, cond, eqb, not, List, [], ◌∷◌, ◌++◌, length, map, None, refl, sym, ap, ◌∙◌, subst}
use Rattle.std.proofs.{Common.{arith}, lemmas.Bool.{cases_Bool, eqb-true, eq-eqb, and_parts, not-true, not-false}}
use Rattle.std.proofs.lemmas.List.{map-append, Sums.{length-filter}}
use Rattle.std.specs.List.{filter, AllByRecursion}
use Rattle.sci_words.specs.declared.{limits.TheConstants.{MAX_NODES}, operation.{Op.{Op}, Reply.{Reply}}}
use Rattle.sci_words.specs.declared.{operation.Reply.TheVariants.{Stored, Got}, stamped.Stamped.{Stamped}}
use Rattle.sci_words.specs.Stamped.{line_after, zero_line, zero_stamped, reply_of}
use Rattle.sci_history.specs.{declared.entry.Entry.{Entry}, Memory.{IsLineRun}}
use Rattle.sci_history.specs.Placed.{is_making, makes, reads, maker_count, by_node_and_serial, by_version, placed_entries, pair_of}
use Rattle.sci_history.specs.{Lawful.{HasWholeVersions}, History.{IsHistory}}
use Rattle.sci_history.specs.Audit.{same_reply, line_after_all, words_after, is_reply_wrong, first_wrong}
use Rattle.sci_history.proofs.Order.{filter_none, all_weaker, all-filter, all-passes}
use Rattle.sci_history.proofs.Placement.{all-by_node_and_serial, by_node_and_serial-one, by_node_and_serial-none}
use Rattle.sci_history.proofs.{AuditVersions.{NoneFail, none_fail, from_none_fail}, Runs.{same_stamped}}

-- ---- replies

pub reply_is : (a b : Reply) → same_reply a b ≡ true → a ≡ b
reply_is Stored Stored e = refl
reply_is Stored (Got word) e = absurd cc
reply_is (Got word) Stored e = absurd cc
reply_is (Got word) (Got other) e = ap Got (eqb-true word other e)

pub reply_same : (a : Reply) → same_reply a a ≡ true
reply_same Stored = refl
reply_same (Got word) = eq-eqb word word refl

-- each reply is the effect's on the words so far
abbrev pub Replied : List ℕ → List Entry → Type 0
Replied words [] = Unit {0}
Replied words (entry ∷ entries) = (entry.reply ≡ reply_of words entry.op) × Replied (line_after words entry.op) entries

abbrev ops_of : List Entry → List Op
ops_of entries = map (λ entry. entry.op) entries

line_after_all-push : (words : List ℕ) (ops : List Op) (op : Op) → line_after_all words (ops ++ op ∷ []) ≡ line_after (line_after_all words ops) op
line_after_all-push words [] op = refl
line_after_all-push words (first ∷ ops) op = line_after_all-push (line_after words first) ops op

pub words_after-push : (before : List Entry) (entry : Entry) → words_after (before ++ entry ∷ []) ≡ line_after (words_after before) entry.op
words_after-push before entry = grind (arith, map-append, line_after_all-push)

replied : (before entries : List Entry) → NoneFail is_reply_wrong before entries → Replied (words_after before) entries
replied before [] h = tt
replied before (entry ∷ entries) h = grind (arith, not-false, reply_is, words_after-push, replied (before ++ entry ∷ []) entries h.1)

from_run : (before entries : List Entry) (new : List ℕ) → IsLineRun (map pair_of entries) (words_after before) new → NoneFail is_reply_wrong before entries
from_run before [] new h = tt
from_run before (entry ∷ entries) new h = (
  ap not (ap (λ r. same_reply r (reply_of (words_after before) entry.op)) h.0 ∙ reply_same (reply_of (words_after before) entry.op)),
  from_run (before ++ entry ∷ []) entries new (rw (words_after-push before entry) h.1),
)

run_end : (words : List ℕ) (entries : List Entry) (new : List ℕ) → IsLineRun (map pair_of entries) words new → new ≡ line_after_all words (ops_of entries)
run_end words [] new h = h
run_end words (entry ∷ entries) new h = run_end (line_after words entry.op) entries new h.1

-- ---- versions

-- each version is that of the line so far, or the next for a maker
abbrev pub Versioned : ℕ → List Entry → ℕ → Type 0
Versioned old [] new = new ≡ old
Versioned old (entry ∷ entries) new = (entry.version ≡ old + cond (is_making entry) 1 0) × Versioned entry.version entries new

versioned-append : (xs ys : List Entry) (old mid new : ℕ) → Versioned old xs mid → Versioned mid ys new → Versioned old (xs ++ ys) new
versioned-append [] ys old mid new h k = subst (λ (v : ℕ). Versioned v ys new) h k
versioned-append (x ∷ xs) ys old mid new h k = (h.0, versioned-append xs ys x.version mid new h.1 k)

versioned_loads : (version : ℕ) (entries : List Entry) → AllByRecursion (λ e. reads version e ≡ true) entries → Versioned version entries version
versioned_loads version [] h = refl
versioned_loads version (entry ∷ entries) h = grind (arith, and_parts, not-true, eqb-true, versioned_loads version entries h.1)

reads_group : (version : ℕ) (entries : List Entry) → AllByRecursion (λ e. reads version e ≡ true) (by_node_and_serial (filter (reads version) entries))
reads_group version entries = all-by_node_and_serial (λ e. reads version e ≡ true) (filter (reads version) entries) (all-passes (reads version) entries)

single : (entries : List Entry) → length entries ≡ 1 → (entry : Entry) × (entries ≡ entry ∷ [])
single [] e = absurd (omega arith)
single (entry ∷ []) e = (entry, refl)
single (entry ∷ other ∷ entries) e = absurd (omega arith)

no_maker_of_zero : (entries : List Entry) → HasWholeVersions entries → filter (makes 0) entries ≡ []
no_maker_of_zero entries h = grind (arith, filter_none, all_weaker, cases_Bool, and_parts, eqb-true)

versioned_maker : (version : ℕ) (entries : List Entry) → HasWholeVersions entries → AllByRecursion (λ e. e.node < MAX_NODES) entries
    → suc version ≤ maker_count entries → Versioned version (by_node_and_serial (filter (makes (suc version)) entries)) (suc version)
versioned_maker version entries h nodes le =
    let own = filter (makes (suc version)) entries in
    let one = single own (length-filter (makes (suc version)) entries ∙ h.once (suc version) (omega arith) le) in
    let maker = one.0 in
    let node : AllByRecursion (λ e. e.node < MAX_NODES) (maker ∷ []) =
    subst (λ (es : List Entry). AllByRecursion (λ e. e.node < MAX_NODES) es) one.1
    (all-filter (λ e. e.node < MAX_NODES) (makes (suc version)) entries nodes) in
    let passes : AllByRecursion (λ e. makes (suc version) e ≡ true) (maker ∷ []) =
    subst (λ (es : List Entry). AllByRecursion (λ e. makes (suc version) e ≡ true) es) one.1 (all-passes (makes (suc version)) entries) in
    let parts = and_parts (is_making maker) (eqb maker.version (suc version)) passes.0 in
    let at : maker.version ≡ suc version = eqb-true maker.version (suc version) parts.1 in
    rw (one.1, by_node_and_serial-one maker node.0) (at ∙ rw parts.0 (omega arith), sym at)

versioned : (version : ℕ) (entries : List Entry) → HasWholeVersions entries → AllByRecursion (λ e. e.node < MAX_NODES) entries → version ≤ maker_count entries
    → Versioned 0 (by_version (suc version) entries) version
unfolding by_version
versioned zero entries h nodes le =
    rw (no_maker_of_zero entries h, by_node_and_serial-none) (versioned_loads 0 (by_node_and_serial (filter (reads 0) entries)) (reads_group 0 entries))
versioned (suc version) entries h nodes le =
    let makers = by_node_and_serial (filter (makes (suc version)) entries) in
    let loads = by_node_and_serial (filter (reads (suc version)) entries) in
    versioned-append (by_version (suc version) entries) (makers ++ loads) 0 version (suc version) (versioned version entries h nodes (omega arith))
    (versioned-append makers loads version (suc version) (suc version) (versioned_maker version entries h nodes le)
    (versioned_loads (suc version) loads (reads_group (suc version) entries)))

-- ---- both together are a history

history_of : (entries : List Entry) (words : List ℕ) (old new : ℕ) → Replied words entries → Versioned old entries new
    → IsHistory entries (record { line = words; version = old }) (record { line = line_after_all words (ops_of entries); version = new })
history_of [] words old new replies versions = same_stamped (record { line = words; version = new }) (record { line = words; version = old }) refl versions
history_of (entry ∷ entries) words old new replies versions =
    grind (arith, cases_Bool, history_of entries (line_after words entry.op) entry.version new replies.1 versions.1)

pub history_found : (entries : List Entry) (last : Stamped) → HasWholeVersions entries → AllByRecursion (λ e. e.node < MAX_NODES) entries
    → first_wrong entries ≡ None → last.line ≡ words_after (placed_entries entries) → last.version ≡ maker_count entries
    → IsHistory (placed_entries entries) zero_stamped last
history_found entries last h nodes right line version =
    let placed = placed_entries entries in
    let replies : Replied zero_line placed = replied [] placed (none_fail is_reply_wrong [] placed right) in
    let end : Stamped = record { line = words_after placed; version = maker_count entries } in
    subst (λ (s : Stamped). IsHistory placed zero_stamped s) (sym (same_stamped last end line version))
    (history_of placed zero_line 0 (maker_count entries) replies (versioned (maker_count entries) entries h nodes (omega arith)))

pub right_from_run : (entries : List Entry) (last : List ℕ) → IsLineRun (map pair_of (placed_entries entries)) zero_line last → first_wrong entries ≡ None
right_from_run entries last h = from_none_fail is_reply_wrong [] (placed_entries entries) (from_run [] (placed_entries entries) last h)

pub end_from_run : (entries : List Entry) (last : List ℕ) → IsLineRun (map pair_of (placed_entries entries)) zero_line last
    → last ≡ words_after (placed_entries entries)
end_from_run entries last h = run_end zero_line (placed_entries entries) last h
