-- An order that is each line's history is a run of the whole memory, and makes the logs lawful.
use Rattle.std.proofs.Common.{◌≡◌, ℕ, zero, suc, ◌<◌, ◌≤◌, false, List, [], ◌∷◌, length, map, replicate, length-set, refl, sym, ap, subst, ◌∙◌, arith, inl}
use Rattle.std.proofs.{Common.{inr}, lemmas.Bool.{cases_Bool, cases_lt, cases_eq, eq-eqb, ne_eqb}}
use Rattle.std.proofs.lemmas.List.{ext_get_or, set_past, get_or-set_same, get_or-set_other, get_or_past, length-replicate}
use Rattle.std.specs.List.{filter, AllByRecursion, AllPairs}
use Rattle.sci_words.specs.declared.{limits.TheConstants.{MAX_NODES}, operation.Op.{Op}, stamped.Stamped.{Stamped}}
use Rattle.sci_words.specs.{Operation.{is_maker}, Stamped.{after, reply_of, zero_stamped}}
use Rattle.sci_history.specs.{declared.entry.Entry.{Entry}, History.{IsHistory, HasHistory}, Lawful.{Lawful}}
use Rattle.sci_history.specs.Memory.{IsRun, zero_memory, stamped_at, words_of_lines, contents_after}
use Rattle.sci_history.specs.{Placed.{log_of, is_of_node, is_on_line, pair_of}, Sequential.{IsSequentialOrder}}
use Rattle.sci_history.proofs.Histories.{line_after-load, version-load, version-maker, version-end}
use Rattle.sci_history.proofs.{Lawfulness.{lawful_line}, Order.{filter_yes, filter_no, filter-filter, all-filter}}
use Rattle.sci_history.proofs.Runs.{line_at-words_of_lines, words_of_lines-contents_after, same_stamped}

-- ---- runs

-- a load leaves the whole stamped line
pub after-load : (old : Stamped) (op : Op) → is_maker op ≡ false → after old op ≡ old
after-load old op load = same_stamped (after old op) old (line_after-load old.line op load) (version-load old op load)

-- what has a history to version 0 leaves no trace
after-zero : (op : Op) (entries : List Entry) (new : Stamped) → new ≡ zero_stamped → IsHistory entries (after zero_stamped op) new
    → after zero_stamped op ≡ zero_stamped
after-zero op entries new gone h = grind (arith, version-end, cases_Bool, version-maker, after-load)

-- the line of an operation afterwards, whether there is such a line or not
here_after : (old new : List Stamped) (op : Op) (entries : List Entry) → length old ≡ length new
    → IsHistory entries (after (stamped_at old op.line) op) (stamped_at new op.line)
    → stamped_at (contents_after old op) op.line ≡ after (stamped_at old op.line) op
here_after old new op entries long h = grind (arith, cases_lt, get_or-set_same, get_or_past, after-zero, set_past)

rest_of : (entry : Entry) (entries : List Entry) (old new : List Stamped) → length old ≡ length new
    → ((line : ℕ) → IsHistory (filter (is_on_line line) (entry ∷ entries)) (stamped_at old line) (stamped_at new line))
    → (entry.reply ≡ reply_of (stamped_at old entry.op.line).line entry.op)
    × ((line : ℕ) → IsHistory (filter (is_on_line line) entries) (stamped_at (contents_after old entry.op) line) (stamped_at new line))
rest_of entry entries old new long each = grind (arith, filter_yes, eq-eqb, here_after, cases_eq, get_or-set_other, filter_no, ne_eqb)

-- entries that are a history of each line are a run of the memory
pub histories_run : (entries : List Entry) (old new : List Stamped) → length old ≡ length new
    → ((line : ℕ) → IsHistory (filter (is_on_line line) entries) (stamped_at old line) (stamped_at new line))
    → IsRun (map pair_of entries) (words_of_lines old) (words_of_lines new)
histories_run [] old new long each = ap words_of_lines (ext_get_or zero_stamped new old (sym long) (λ k lt. each k))
histories_run (entry ∷ entries) old new long each =
    let rest = rest_of entry entries old new long each in
    let run = histories_run entries (contents_after old entry.op) new (length-set old entry.op.line (after (stamped_at old entry.op.line) entry.op) ∙ long)
    rest.1 in (
      rest.0 ∙ ap (λ (words : List ℕ). reply_of words entry.op) (sym (line_at-words_of_lines old entry.op.line)),
      subst (λ (memory : List (List ℕ)). IsRun (map pair_of entries) memory (words_of_lines new)) (words_of_lines-contents_after old entry.op) run,
    )

zero_words : (lines : ℕ) → words_of_lines (replicate lines zero_stamped) ≡ zero_memory lines
zero_words zero = refl
zero_words (suc lines) = ap (λ (memory : List (List ℕ)). zero_stamped.line ∷ memory) (zero_words lines)

zero_lines : (lines line : ℕ) → stamped_at (replicate lines zero_stamped) line ≡ zero_stamped
zero_lines zero line = refl
zero_lines (suc lines) zero = refl
zero_lines (suc lines) (suc line) = zero_lines lines line

-- from zero words on
pub histories_are_run : (entries : List Entry) (last : List Stamped)
    → ((line : ℕ) → IsHistory (filter (is_on_line line) entries) zero_stamped (stamped_at last line))
    → IsRun (map pair_of entries) (zero_memory (length last)) (words_of_lines last)
histories_are_run entries last each =
    let start = replicate (length last) zero_stamped in
    let run = histories_run entries start last (length-replicate (length last) zero_stamped)
    (λ line. subst (λ (s : Stamped). IsHistory (filter (is_on_line line) entries) s (stamped_at last line)) (sym (zero_lines (length last) line))
    (each line)) in
    subst (λ (memory : List (List ℕ)). IsRun (map pair_of entries) memory (words_of_lines last)) (zero_words (length last)) run

pub order_is_run : (logs : List (List Entry)) (last : List Stamped) (order : List Entry) → IsSequentialOrder logs last order
    → IsRun (map pair_of order) (zero_memory (length last)) (words_of_lines last)
order_is_run logs last order is = histories_are_run order last is.histories

-- ---- lawfulness

not_none : {X : Type 0} {x : X} {xs : List X} → x ∷ xs ≡ [] → ⊥
not_none e = absurd cc

tail_none : (node : ℕ) (entry : Entry) (entries : List Entry) → filter (is_of_node node) (entry ∷ entries) ≡ [] → filter (is_of_node node) entries ≡ []
tail_none node entry entries none = grind (arith, cases_Bool, not_none, filter_yes, filter_no)

none_beyond : (entries : List Entry) (bound : ℕ) → ((node : ℕ) → bound ≤ node → filter (is_of_node node) entries ≡ [])
    → AllByRecursion (λ entry. entry.node < bound) entries
none_beyond [] bound none = tt
none_beyond (entry ∷ entries) bound none = (
  elim (cases_lt entry.node bound) [
    | inl lt ↦ lt
    | inr past ↦ absurd (not_none (sym (filter_yes (is_of_node entry.node) entry entries (eq-eqb entry.node entry.node refl)) ∙ none entry.node past))
  ],
  none_beyond entries bound (λ node past. tail_none node entry entries (none node past)),
)

order_nodes : (logs : List (List Entry)) (last : List Stamped) (order : List Entry) → IsSequentialOrder logs last order
    → AllByRecursion (λ entry. entry.node < length logs) order
order_nodes logs last order is = none_beyond order (length logs) (λ node past. is.logged node ∙ get_or_past logs node [] past)

order_history : (logs : List (List Entry)) (last : List Stamped) (order : List Entry) (line : ℕ) → length logs ≡ MAX_NODES → IsSequentialOrder logs last order
    → ((node : ℕ) → AllPairs (λ x y. x.serial < y.serial) (filter (is_on_line line) (log_of logs node))) → HasHistory logs line (stamped_at last line)
order_history logs last order line sixteen is serials = record {
  entries = filter (is_on_line line) order;
  history = is.histories line;
  nodes = all-filter (λ (entry : Entry). entry.node < MAX_NODES) (is_on_line line) order
      (subst (λ (k : ℕ). AllByRecursion (λ (entry : Entry). entry.node < k) order) sixteen (order_nodes logs last order is));
  logged = λ node lt. ap (filter (is_on_line line)) (sym (is.logged node)) ∙ filter-filter (is_on_line line) (is_of_node node) order;
  serials = λ node lt. serials node;
}

-- logs with such an order are lawful, if along each log the serials rise on each line
pub order_is_lawful : (logs : List (List Entry)) (last : List Stamped) (order : List Entry) → length logs ≡ MAX_NODES → IsSequentialOrder logs last order
    → ((line node : ℕ) → AllPairs (λ x y. x.serial < y.serial) (filter (is_on_line line) (log_of logs node))) → Lawful logs last
order_is_lawful logs last order sixteen is serials line =
    lawful_line logs line (stamped_at last line) sixteen (order_history logs last order line sixteen is (serials line))
