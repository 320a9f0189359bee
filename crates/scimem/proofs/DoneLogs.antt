-- Logs and last contents of entries that took effect line by line can be written as a text.
use Rattle.std.proofs.Common.{◌≡◌, ℕ, ◌^◌, ◌<◌, ◌≤◌, true, List, [], ◌∷◌, All, length, map, filter, get_or, refl, sym, ap, subst, ◌∙◌, arith, inl, inr}
use Rattle.std.proofs.lemmas.{Bool.{cases_lt, and_from, and_parts, lt-ltb, ltb-true, eqb-true}, List.{get_or_past}}
use Rattle.std.proofs.lemmas.List.{Elements.{All-from_recursion}, FromFn.{length-map-range_with_len}}
use Rattle.std.specs.{Prelude.{◌&&◌, IsTrue}, List.{AllByRecursion, range_with_len}}
use Rattle.sci_words.specs.declared.limits.TheConstants.{WORDS_PER_LINE, MAX_NODES, MAX_OPERATIONS}
use Rattle.sci_words.specs.declared.operation.{Act.{Act, TheVariants.{Load, Store, Lock}}, LockOp.{LockOp}}
use Rattle.sci_words.specs.declared.operation.LockOp.TheVariants.{MaskSwap, CompareSwap, FetchAdd, BoundedAdd, WrapAdd}
use Rattle.sci_words.specs.declared.{operation.Reply.{Reply, TheVariants.{Stored, Got}}, stamped.Stamped.{Stamped}}
use Rattle.sci_words.specs.{Operation.{effect_of_act, is_word, are_words, has_words}, Stamped.{after, zero_stamped}}
use Rattle.sci_history.specs.{declared.entry.Entry.{Entry}, History.{IsHistory}}
use Rattle.sci_history.specs.Placed.{log_of, is_of_node, is_on_line}
use Rattle.sci_history.proofs.{Histories.{versions-within}, Order.{all_weaker, all_both, all-filter, all-passes}}
use Rattle.sci_core.specs.InRange.{IsLine, IsReply}
use Rattle.sci_core.proofs.WellFormed.Ranges.{HasWords, history_fits, zero_is_line, from_lines, all_mapped}
use Rattle.sci_text.specs.{Operation.{LockFits, ActFits}, Script.{IsWithin}}
use Rattle.sci_text.specs.LogValue.{IsSize, format_2, StampedFits, Answers, ReplyFits, EntryFits, AreLogs}

-- ---- operands and replies

both_words : (a b : ℕ) → (a < 2 ^ 64) × (b < 2 ^ 64) → IsTrue (is_word a && is_word b)
both_words a b h = and_from (is_word a) (is_word b) (lt-ltb a (2 ^ 64) h.0) (lt-ltb b (2 ^ 64) h.1)

both_fit : (a b : ℕ) → IsTrue (is_word a && is_word b) → (a < 2 ^ 64) × (b < 2 ^ 64)
both_fit a b are = let parts = and_parts (is_word a) (is_word b) are in (ltb-true a (2 ^ 64) parts.0, ltb-true b (2 ^ 64) parts.1)

lock_words : (lock : LockOp) → LockFits lock → IsTrue (are_words lock)
lock_words (MaskSwap arg datum) fits = both_words arg datum fits
lock_words (CompareSwap arg datum) fits = both_words arg datum fits
lock_words (FetchAdd datum) fits = lt-ltb datum (2 ^ 64) fits
lock_words (BoundedAdd arg datum) fits = both_words arg datum fits
lock_words (WrapAdd arg datum) fits = both_words arg datum fits

lock_fits : (lock : LockOp) → IsTrue (are_words lock) → LockFits lock
lock_fits (MaskSwap arg datum) are = both_fit arg datum are
lock_fits (CompareSwap arg datum) are = both_fit arg datum are
lock_fits (FetchAdd datum) are = ltb-true datum (2 ^ 64) are
lock_fits (BoundedAdd arg datum) are = both_fit arg datum are
lock_fits (WrapAdd arg datum) are = both_fit arg datum are

-- operands fit that are words, and no others
operands_words : (act : Act) → ActFits act → IsTrue (has_words act)
operands_words Load fits = refl
operands_words (Store word) fits = lt-ltb word (2 ^ 64) fits
operands_words (Lock lock) fits = lock_words lock fits

pub operands_fit : (act : Act) → IsTrue (has_words act) → ActFits act
operands_fit Load are = tt
operands_fit (Store word) are = ltb-true word (2 ^ 64) are
operands_fit (Lock lock) are = lock_fits lock are

reply_fits : (reply : Reply) → IsReply reply → ReplyFits reply
reply_fits Stored is = tt
reply_fits (Got word) is = is

-- a store is answered as stored, and all else with a word
answers_it : (act : Act) (old : ℕ) → Answers act (effect_of_act act old).1
answers_it Load old = tt
answers_it (Store word) old = tt
answers_it (Lock lock) old = tt

history_answers : (entries : List Entry) (c d : Stamped) → IsHistory entries c d → AllByRecursion (λ entry. Answers entry.op.act entry.reply) entries
history_answers [] c d history = tt
history_answers (entry ∷ entries) c d history = (
  subst (Answers entry.op.act) (sym history.0) (answers_it entry.op.act (get_or c.line entry.op.word 0)),
  history_answers entries (after c entry.op) d history.2,
)

abbrev ReplyIsRight : Entry → Type 0
ReplyIsRight entry = Answers entry.op.act entry.reply × ReplyFits entry.reply

-- ---- entries of a machine

-- entries within a machine's size, that are each line's history from zero words to its last contents
pub record AreDone (nodes lines : ℕ) (entries : List Entry) (last_at : ℕ → Stamped) : Type 0 where
  pub within : AllByRecursion (λ entry. IsWithin nodes lines entry.node entry.op) entries
  pub histories : (line : ℕ) → line < lines → IsHistory (filter (is_on_line line) entries) zero_stamped (last_at line)
  pub small : (line : ℕ) → line < lines → (last_at line).version < 2 ^ 64
  pub serials : (node : ℕ) → node < MAX_NODES → AllByRecursion (λ entry. entry.serial < MAX_OPERATIONS) (filter (is_of_node node) entries)
  pub short : (node : ℕ) → node < MAX_NODES → length (filter (is_of_node node) entries) ≤ MAX_OPERATIONS

-- what is right in an entry beside its operation and its serial
abbrev IsRight : Entry → Type 0
IsRight entry = ReplyIsRight entry × (entry.version < 2 ^ 64)

record LineIsRight (entries : List Entry) (last : Stamped) (line : ℕ) : Type 0 where
  pub last_line : IsLine last.line
  pub last_version : last.version < 2 ^ 64
  pub right : AllByRecursion IsRight (filter (is_on_line line) entries)

line_right : (nodes lines : ℕ) (entries : List Entry) (last_at : ℕ → Stamped) (line : ℕ) → AreDone nodes lines entries last_at → line < lines
    → LineIsRight entries (last_at line) line
line_right nodes lines entries last_at line h inside =
    let on = filter (is_on_line line) entries in
    let last = last_at line in
    let history = h.histories line inside in
    let words = all_weaker (λ (entry : Entry). IsWithin nodes lines entry.node entry.op) HasWords
    (λ entry w. (w.known_word, operands_words entry.op.act w.words)) entries h.within in
    let fits = history_fits on zero_stamped last history zero_is_line (all-filter HasWords (is_on_line line) entries words) in
    let Given = λ (entry : Entry). Answers entry.op.act entry.reply in
    let Fits = λ (entry : Entry). IsReply entry.reply in
    let right = all_weaker (λ entry. Given entry × Fits entry) ReplyIsRight (λ entry r. (r.0, reply_fits entry.reply r.1)) on
    (all_both Given Fits on (history_answers on zero_stamped last history) fits.1) in
    let small = h.small line inside in
    let versions = all_weaker (λ (entry : Entry). entry.version ≤ last.version) (λ entry. entry.version < 2 ^ 64) (λ entry le. omega arith) on
    (versions-within on zero_stamped last history) in
    record { last_line = fits.0; last_version = small; right = all_both ReplyIsRight (λ (entry : Entry). entry.version < 2 ^ 64) on right versions }

all_right : (nodes lines : ℕ) (entries : List Entry) (last_at : ℕ → Stamped) → AreDone nodes lines entries last_at → AllByRecursion IsRight entries
all_right nodes lines entries last_at h =
    let on = all_weaker (λ (entry : Entry). IsWithin nodes lines entry.node entry.op) (λ entry. entry.op.line < lines) (λ entry w. w.known_line) entries
    h.within in
    from_lines IsRight lines entries on (λ line lt. (line_right nodes lines entries last_at line h lt).right)

entry_fits : (nodes lines : ℕ) (entry : Entry) → IsWithin nodes lines entry.node entry.op × (IsRight entry × (entry.serial < MAX_OPERATIONS))
    → EntryFits (format_2 nodes lines) lines entry
entry_fits nodes lines entry h = record {
  numbers = record { node = h.0.known_node; serial = h.1.1; line = h.0.known_line; word = h.0.known_word };
  operands = h.0.words;
  answers = h.1.0.0.0;
  reply = h.1.0.0.1;
  version = h.1.0.1;
}

log_fits : (nodes lines : ℕ) (entries : List Entry) (last_at : ℕ → Stamped) (node : ℕ) → AreDone nodes lines entries last_at → node < MAX_NODES
    → AllByRecursion (EntryFits (format_2 nodes lines) lines) (filter (is_of_node node) entries)
log_fits nodes lines entries last_at node h low =
    let log = filter (is_of_node node) entries in
    let Within = λ (entry : Entry). IsWithin nodes lines entry.node entry.op in
    let Both = λ (entry : Entry). IsRight entry × (entry.serial < MAX_OPERATIONS) in
    let within = all-filter Within (is_of_node node) entries h.within in
    let right = all-filter IsRight (is_of_node node) entries (all_right nodes lines entries last_at h) in
    let both = all_both IsRight (λ (entry : Entry). entry.serial < MAX_OPERATIONS) log right (h.serials node low) in
    all_weaker (λ entry. Within entry × Both entry) (EntryFits (format_2 nodes lines) lines) (entry_fits nodes lines) log (all_both Within Both log within both)

own_log : (entries : List Entry) (node : ℕ) → AllByRecursion (λ entry. entry.node ≡ node) (filter (is_of_node node) entries)
own_log entries node = all_weaker (λ (entry : Entry). is_of_node node entry ≡ true) (λ entry. entry.node ≡ node) (λ entry e. eqb-true entry.node node e)
    (filter (is_of_node node) entries) (all-passes (is_of_node node) entries)

-- ---- all logs, and the last contents

-- each node's log has its entries, and the last contents are those of each line
pub record AreLogged (lines : ℕ) (entries : List Entry) (last_at : ℕ → Stamped) (logs : List (List Entry)) (last : List Stamped) : Type 0 where
  pub sixteen : length logs ≡ MAX_NODES
  pub logged : (node : ℕ) → node < MAX_NODES → log_of logs node ≡ filter (is_of_node node) entries
  pub left : last ≡ map last_at (range_with_len 0 lines)

-- what holds of each node's log holds of each log
each_log : (P : List Entry → Type 0) (entries : List Entry) (logs : List (List Entry)) (node : ℕ) → length logs ≡ MAX_NODES
    → ((n : ℕ) → n < MAX_NODES → log_of logs n ≡ filter (is_of_node n) entries)
    → P [] → ((n : ℕ) → n < MAX_NODES → P (filter (is_of_node n) entries)) → P (log_of logs node)
each_log P entries logs node long logged none some =
    elim (cases_lt node MAX_NODES) [
      | inl lt ↦ subst P (sym (logged node lt)) (some node lt)
      | inr past ↦ subst P (sym (get_or_past logs node [] (omega arith))) none
    ]

abbrev LastFits : Stamped → Type 0
LastFits stamped = (length stamped.line ≡ WORDS_PER_LINE) × StampedFits stamped

-- entries that took effect line by line, with the last contents, can be written as a text
pub are_logs : (nodes lines : ℕ) (entries : List Entry) (last_at : ℕ → Stamped) (logs : List (List Entry)) (last : List Stamped) → IsSize nodes lines
    → AreDone nodes lines entries last_at → AreLogged lines entries last_at logs last → AreLogs nodes logs last
are_logs nodes lines entries last_at logs last size h l =
    let long : length last ≡ lines = ap length l.left ∙ length-map-range_with_len last_at 0 lines in
    let few = size.few_lines in
    let form = format_2 nodes lines in
    let fits : All LastFits (map last_at (range_with_len 0 lines)) = all_mapped LastFits last_at lines (λ line lt. (
    let right = line_right nodes lines entries last_at line h lt in
    (right.last_line.eight, record { words = right.last_line.words_fit; version = right.last_version }))) in
    let each : (P : List Entry → Type 0) (node : ℕ) → P [] → ((n : ℕ) → n < MAX_NODES → P (filter (is_of_node n) entries)) → P (log_of logs node) =
    λ P node none some. each_log P entries logs node l.sixteen l.logged none some in (
      form,
      record {
        good = record {
          form = inr (lines, refl, size);
          last = subst (All LastFits) (sym l.left) fits;
          few_lines = omega arith;
          no_extra = omega arith;
          last_first = λ some. long;
          sixteen = l.sixteen;
          own = λ node. each_own node;
          entries = λ node. subst (λ (count : ℕ). All (EntryFits form count) (log_of logs node)) (sym long)
              (each (All (EntryFits form lines)) node (All-from_recursion (EntryFits form lines) [] tt)
              (λ n lt. All-from_recursion (EntryFits form lines) (filter (is_of_node n) entries) (log_fits nodes lines entries last_at n h lt)));
          few_entries = λ node. each (λ log. length log ≤ MAX_OPERATIONS) node (omega arith) h.short;
        };
        whole = long;
        nodes_is = refl;
      },
    )
  where
    each_own : (node : ℕ) → All (λ entry. entry.node ≡ node) (log_of logs node)
    each_own node = elim (cases_lt node MAX_NODES) [
      | inl lt ↦ subst (All (λ entry. entry.node ≡ node)) (sym (l.logged node lt))
          (All-from_recursion (λ entry. entry.node ≡ node) (filter (is_of_node node) entries) (own_log entries node))
      | inr past ↦ (let long = l.sixteen in
          subst (All (λ entry. entry.node ≡ node)) (sym (get_or_past logs node [] (omega arith))) (All-from_recursion (λ entry. entry.node ≡ node) [] tt))
    ]
