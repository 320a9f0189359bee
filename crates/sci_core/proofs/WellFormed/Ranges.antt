-- In every reached state words are below 2^64, and versions no more than the operations that may be issued.
use Rattle.std.proofs.Common.{◌≡◌, ℕ, zero, suc, ◌+◌, ◌*◌, ◌^◌, ◌<◌, ◌≤◌, List, [], ◌∷◌, All, length, map, filter, get_or, replicate, length-set}
use Rattle.std.proofs.{Common.{length-append, refl, sym, ap, subst, ◌∙◌, arith, inl, inr}, Math.Nat.{mod-lt}}
use Rattle.std.proofs.lemmas.{Nat.{or_lt, and_le_l}, Bool.{cases_lt, cases_eq, and_parts, ltb-true, eq-eqb, ne_eqb}}
use Rattle.std.proofs.lemmas.List.{get_or_past, Elements.{All-set, All-from_recursion, recursion_from_All}}
use Rattle.std.proofs.lemmas.List.FromFn.{get_or-map-range_with_len, length-map-range_with_len}
use Rattle.std.proofs.lemmas.List.Sums.{length-filter, count_by-le-length}
use Rattle.std.specs.{Prelude.{◌==◌, ◌&&◌, bit_and, IsTrue}, Int.{bit_not, w64}}
use Rattle.std.specs.List.{AllByRecursion, flat_map, range_with_len}
use Rattle.sci_words.specs.declared.limits.TheConstants.{WORDS_PER_LINE, MAX_NODES, MAX_OPERATIONS}
use Rattle.sci_words.specs.declared.operation.{Act.{Act, TheVariants.{Load, Store, Lock}}, LockOp.{LockOp}}
use Rattle.sci_words.specs.declared.operation.LockOp.TheVariants.{MaskSwap, CompareSwap, FetchAdd, BoundedAdd, WrapAdd}
use Rattle.sci_words.specs.declared.{operation.Op.{Op}, stamped.Stamped.{Stamped}}
use Rattle.sci_words.specs.Operation.{word_sum, locked_word, effect_of_act, is_word, are_words, has_words}
use Rattle.sci_words.specs.Stamped.{after, line_after, zero_line, zero_stamped}
use Rattle.sci_history.specs.{declared.entry.Entry.{Entry}, History.{IsHistory}}
use Rattle.sci_history.specs.Placed.{is_of_node, is_on_line, is_making, maker_count, on_line}
use Rattle.sci_history.proofs.Histories.{versions-within}
use Rattle.sci_history.proofs.Order.{filter_yes, filter_no, all_weaker, all_both, all-filter}
use Rattle.sci_core.specs.{Size.{Size}, Core.{Core, node_at, opening}, Network.{entries_by}}
use Rattle.sci_core.specs.{InRange.{IsLine, IsStamped, IsReply, IsEntryOf}, Outcome.{logs_of}}
use Rattle.sci_core.specs.{Reached.{IsReachable, IsReached}, Sharing.{last_at}, WellFormed.{IsWellFormed}}
use Rattle.sci_core.proofs.{History.ScheduleHistories.{IsKnown}, Basics.{Lists.{if_either}, Logs.{short_log}}}
use Rattle.sci_core.proofs.ReachedLaws.{any_lawful, reached_logged, last_within, reached_log, reached_history}
use Rattle.sci_core.proofs.WellFormed.WellFormedSteps.{reachable, reached_well}

-- ---- what an operation gives

sum_fits : (a b : ℕ) → word_sum a b < 2 ^ 64
sum_fits a b = mod-lt (a + b) (omega arith)

abbrev Fits : ℕ → Type 0
Fits word = word < 2 ^ 64

both_fit : (a b : ℕ) → IsTrue (is_word a && is_word b) → (a < 2 ^ 64) × (b < 2 ^ 64)
both_fit a b are = let parts = and_parts (is_word a) (is_word b) are in (ltb-true a (2 ^ 64) parts.0, ltb-true b (2 ^ 64) parts.1)

lock_fits : (lock : LockOp) (old : ℕ) → IsTrue (are_words lock) → old < 2 ^ 64 → locked_word lock old < 2 ^ 64
lock_fits (MaskSwap arg datum) old are lt =
    let fits = both_fit arg datum are in
    let first = and_le_l datum arg in
    let second = and_le_l old (bit_not w64 arg) in
    let small = fits.1 in
    or_lt 64 (bit_and datum arg) (bit_and old (bit_not w64 arg)) (omega arith) (omega arith)
lock_fits (CompareSwap arg datum) old are lt = if_either Fits (old == arg) datum old (both_fit arg datum are).1 lt
lock_fits (FetchAdd datum) old are lt = sum_fits old datum
lock_fits (BoundedAdd arg datum) old are lt = if_either Fits (old == arg) old (word_sum old datum) lt (sum_fits old datum)
lock_fits (WrapAdd arg datum) old are lt = if_either Fits (old == arg) datum (word_sum old datum) (both_fit arg datum are).1 (sum_fits old datum)

act_gives : (act : Act) (old : ℕ) → IsTrue (has_words act) → old < 2 ^ 64 → ((effect_of_act act old).0 < 2 ^ 64) × IsReply (effect_of_act act old).1
act_gives Load old fits lt = (lt, lt)
act_gives (Store word) old fits lt = (ltb-true word (2 ^ 64) fits, tt)
act_gives (Lock lock) old fits lt = (lock_fits lock old fits lt, lt)

-- ---- along a history

abbrev pub HasWords : Entry → Type 0
HasWords entry = (entry.op.word < WORDS_PER_LINE) × IsTrue (has_words entry.op.act)

op_gives : (words : List ℕ) (op : Op) → IsLine words → op.word < WORDS_PER_LINE → IsTrue (has_words op.act)
    → ((effect_of_act op.act (get_or words op.word 0)).0 < 2 ^ 64) × IsReply (effect_of_act op.act (get_or words op.word 0)).1
op_gives words op line lt fits = let long = line.eight in act_gives op.act (get_or words op.word 0) fits (line.words_fit op.word 0 (omega arith))

line_fits : (words : List ℕ) (op : Op) → IsLine words → op.word < WORDS_PER_LINE → IsTrue (has_words op.act) → IsLine (line_after words op)
line_fits words op line lt fits = record {
  eight = length-set words op.word (effect_of_act op.act (get_or words op.word 0)).0 ∙ line.eight;
  words_fit = All-set (λ word. word < 2 ^ 64) words op.word (effect_of_act op.act (get_or words op.word 0)).0 (op_gives words op line lt fits).0 line.words_fit;
}

pub history_fits : (entries : List Entry) (c d : Stamped) → IsHistory entries c d → IsLine c.line → AllByRecursion HasWords entries
    → IsLine d.line × AllByRecursion (λ entry. IsReply entry.reply) entries
history_fits [] c d history line all = (subst (λ (s : Stamped). IsLine s.line) (sym history) line, tt)
history_fits (entry ∷ entries) c d history line all =
    grind (arith, op_gives, line_fits, history_fits entries (after c entry.op) d history.2 (line_fits c.line entry.op line all.0.0 all.0.1) all.1)

zeros_fit : (count : ℕ) → AllByRecursion (λ (word : ℕ). word < 2 ^ 64) (replicate count 0)
zeros_fit zero = tt
zeros_fit (suc count) = (omega arith, zeros_fit count)

pub zero_is_line : IsLine zero_line
zero_is_line = record { eight = refl; words_fit = All-from_recursion (λ (word : ℕ). word < 2 ^ 64) zero_line (zeros_fit 8) }

-- ---- how many versions

flat_short : (logs : List (List Entry)) → AllByRecursion (λ log. length log ≤ MAX_OPERATIONS) logs
    → length (flat_map (λ (log : List Entry). log) logs) ≤ length logs * MAX_OPERATIONS
flat_short [] all = omega arith
flat_short (log ∷ logs) all =
    let rest = flat_short logs all.1 in
    let first = all.0 in
    let long = length-append log (flat_map (λ (l : List Entry). l) logs) in
    omega arith

pub all_mapped : {X : Type 0} (P : X → Type 0) (f : ℕ → X) (count : ℕ) → ((i : ℕ) → i < count → P (f i)) → All P (map f (range_with_len 0 count))
all_mapped P f count h i d lt = grind (arith, length-map-range_with_len, get_or-map-range_with_len)

-- a node that the machine doesn't have has no log
no_log : (core : Core) (node : ℕ) → IsWellFormed core → core.size.nodes ≤ node → (node_at core node).log ≡ []
no_log core node well past = grind (arith, get_or_past)

pub log_short : (core : Core) (node : ℕ) → IsWellFormed core → core.size.limit ≤ MAX_OPERATIONS → length (node_at core node).log ≤ MAX_OPERATIONS
log_short core node well few = grind (arith, cases_lt, short_log, no_log)

makers_few : (core : Core) (line : ℕ) → IsWellFormed core → core.size.limit ≤ MAX_OPERATIONS
    → maker_count (on_line line (logs_of core)) ≤ MAX_NODES * MAX_OPERATIONS
makers_few core line well most =
    let logs = logs_of core in
    let each = all_mapped (λ (log : List Entry). length log ≤ MAX_OPERATIONS) (λ (n : ℕ). (node_at core n).log) MAX_NODES
    (λ n lt. log_short core n well most) in
    let all = flat_short logs (recursion_from_All (λ (log : List Entry). length log ≤ MAX_OPERATIONS) logs each) in
    let sixteen : length logs ≡ 16 = length-map-range_with_len (λ (n : ℕ). (node_at core n).log) 0 16 in
    let flat = flat_map (λ (log : List Entry). log) logs in
    let part = length-filter (is_on_line line) flat in
    let few = count_by-le-length (is_on_line line) flat in
    let made = count_by-le-length is_making (filter (is_on_line line) flat) in
    omega arith

-- ---- the last contents, and each entry

-- the version of each line is the number of its makers
pub last_counts : (core : Core) (line : ℕ) → IsReachable core → core.size.nodes ≤ MAX_NODES → line < core.size.lines
    → (last_at core line).version ≡ maker_count (on_line line (logs_of core))
last_counts core line reached few inside =
    ap (λ (s : Stamped). s.version) (sym (last_within core line inside)) ∙ (any_lawful core reached few line).contents.version

record LineIsRight (core : Core) (entries : List Entry) (line : ℕ) : Type 0 where
  pub last : IsStamped (last_at core line)
  pub replies : AllByRecursion (λ entry. IsReply entry.reply) (filter (is_on_line line) entries)
  pub versions : AllByRecursion (λ entry. entry.version ≤ MAX_NODES * MAX_OPERATIONS) (filter (is_on_line line) entries)

line_right : (core : Core) (reached : IsReached core) (line : ℕ) → line < core.size.lines → LineIsRight core (entries_by (opening core.size) reached.moves) line
line_right core reached line inside =
    let entries = entries_by (opening core.size) reached.moves in
    let on = filter (is_on_line line) entries in
    let last = last_at core line in
    let history = reached_history core reached line inside in
    let words = all_weaker (IsKnown core.size.lines) HasWords (λ entry h. (h.0.1, h.1)) entries (reached_logged core reached).known in
    let right = history_fits on zero_stamped last history zero_is_line (all-filter HasWords (is_on_line line) entries words) in
    let counted = last_counts core line (reachable core reached) reached.size.extent.few_nodes inside in
    let few = makers_few core line (reached_well core reached) reached.size.few_operations in
    let most : last.version ≤ MAX_NODES * MAX_OPERATIONS = omega arith in
    record {
      last = record { line = right.0; version = most };
      replies = right.1;
      versions = all_weaker (λ (entry : Entry). entry.version ≤ last.version) (λ entry. entry.version ≤ MAX_NODES * MAX_OPERATIONS) (λ entry le. omega arith) on
          (versions-within on zero_stamped last history);
    }

pub reached_contents : (core : Core) (line : ℕ) → IsReached core → line < core.size.lines → IsStamped (last_at core line)
reached_contents core line reached inside = (line_right core reached line inside).last

-- ---- from each line to all

head_of_line : (P : Entry → Type 0) (line : ℕ) (entry : Entry) (entries : List Entry) → entry.op.line ≡ line
    → AllByRecursion P (filter (is_on_line line) (entry ∷ entries)) → P entry × AllByRecursion P (filter (is_on_line line) entries)
head_of_line P line entry entries here all = subst (AllByRecursion P) (filter_yes (is_on_line line) entry entries (eq-eqb entry.op.line line here)) all

rest_of_line : (P : Entry → Type 0) (line : ℕ) (entry : Entry) (entries : List Entry) → AllByRecursion P (filter (is_on_line line) (entry ∷ entries))
    → AllByRecursion P (filter (is_on_line line) entries)
rest_of_line P line entry entries all = grind (arith, cases_eq, head_of_line, filter_no, ne_eqb)

pub from_lines : (P : Entry → Type 0) (lines : ℕ) (entries : List Entry) → AllByRecursion (λ entry. entry.op.line < lines) entries
    → ((line : ℕ) → line < lines → AllByRecursion P (filter (is_on_line line) entries)) → AllByRecursion P entries
from_lines P lines [] within each = tt
from_lines P lines (entry ∷ entries) within each = (
  (head_of_line P entry.op.line entry entries refl (each entry.op.line within.0)).0,
  from_lines P lines entries within.1 (λ line lt. rest_of_line P line entry entries (each line lt)),
)

-- what is right in an entry beside its serial
record IsRight (size : Size) (entry : Entry) : Type 0 where
  pub node : entry.node < size.nodes
  pub known : IsKnown size.lines entry
  pub reply : IsReply entry.reply
  pub version : entry.version ≤ MAX_NODES * MAX_OPERATIONS

made_right : (core : Core) (reached : IsReached core) → AllByRecursion (IsRight core.size) (entries_by (opening core.size) reached.moves)
made_right core reached =
    let size = core.size in
    let entries = entries_by (opening size) reached.moves in
    let logged = reached_logged core reached in
    let on = all_weaker (IsKnown size.lines) (λ entry. entry.op.line < size.lines) (λ entry h. h.0.0) entries logged.known in
    let Replies = λ (entry : Entry). IsReply entry.reply in
    let Versions = λ (entry : Entry). entry.version ≤ MAX_NODES * MAX_OPERATIONS in
    let replies = from_lines Replies size.lines entries on (λ line lt. (line_right core reached line lt).replies) in
    let versions = from_lines Versions size.lines entries on (λ line lt. (line_right core reached line lt).versions) in
    let Nodes = λ (entry : Entry). entry.node < size.nodes in
    let Known = IsKnown size.lines in
    all_weaker (λ entry. (Nodes entry × Known entry) × (Replies entry × Versions entry)) (IsRight size)
    (λ entry h. record { node = h.0.0; known = h.0.1; reply = h.1.0; version = h.1.1 }) entries
    (all_both (λ entry. Nodes entry × Known entry) (λ entry. Replies entry × Versions entry) entries (all_both Nodes Known entries logged.nodes logged.known)
    (all_both Replies Versions entries replies versions))

-- each entry of a node's log
pub reached_entries : (core : Core) (node : ℕ) → IsReached core → AllByRecursion (IsEntryOf core.size) (node_at core node).log
reached_entries core node reached =
    let size = core.size in
    let well = reached_well core reached in
    let log = (node_at core node).log in
    let entries = entries_by (opening size) reached.moves in
    let right = subst (AllByRecursion (IsRight size)) (sym (reached_log core reached node))
    (all-filter (IsRight size) (is_of_node node) entries (made_right core reached)) in
    let Serial = λ (entry : Entry). entry.serial < size.limit in
    let serials : AllByRecursion Serial log = elim (cases_lt node size.nodes) [
      | inl lt ↦
          let part = well.each_part node lt in
          let issued = part.fits.issued in
          let most = part.most in
          all_weaker (λ (entry : Entry). entry.serial < (node_at core node).issued) Serial (λ entry below. omega arith) log
          ((reached_logged core reached).serials node).below
      | inr past ↦ subst (AllByRecursion Serial) (sym (no_log core node well past)) tt
    ] in
    all_weaker (λ entry. IsRight size entry × Serial entry) (IsEntryOf size) (λ entry h. record {
      node = h.0.node;
      serial = h.1;
      line = h.0.known.0.0;
      word = h.0.known.0.1;
      operands = h.0.known.1;
      reply = h.0.reply;
      version = h.0.version;
    }) log (all_both (IsRight size) Serial log right serials)
