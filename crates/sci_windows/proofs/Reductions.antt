-- A window's logs are lawful from its first contents exactly if its relative logs are lawful.
use Rattle.std.proofs.Common.{◌≡◌, ℕ, zero, suc, ◌<◌, ◌≤◌, Bool, List, [], ◌∷◌, length, map, replicate, refl, sym, ap, subst, ◌∙◌, arith}
use Rattle.std.proofs.lemmas.Bool.{eqb-true}
use Rattle.std.proofs.lemmas.List.{length-map, Elements.{All-from_recursion, recursion_from_All}, Sums.{count_by-le-length, length-filter}}
use Rattle.std.proofs.Math.ListN.{get_or-map}
use Rattle.std.specs.{Prelude.{All}, List.{filter, AllByRecursion, flat_map}}
use Rattle.sci_words.specs.declared.{limits.TheConstants.{MAX_NODES, WORDS_PER_LINE}, stamped.Stamped.{Stamped}}
use Rattle.sci_words.specs.Stamped.{zero_stamped}
use Rattle.sci_history.specs.{declared.entry.Entry.{Entry}, History.{IsHistory, HasHistory}, Lawful.{IsLawfulLine, Lawful}, Memory.{stamped_at}}
use Rattle.sci_history.specs.{Audit.{AreWithin, IsWithin}, Placed.{AreOwn, log_of, is_of_node, is_on_line, is_making, maker_count, on_line, placed}}
use Rattle.sci_history.proofs.{Audits.{all-by_version, nodes_on_line}, Consequences.{placed_history}, Lawfulness.{lawful_line}}
use Rattle.sci_history.proofs.{Order.{all-passes, all_weaker}, Runs.{same_stamped}}
use Rattle.sci_windows.specs.Relative.{AreEarly, AreFew, AreLines, relative_contents, relative_entry, relative_line, relative_logs, relative_stamped}
use Rattle.sci_windows.specs.{Relative.{relative_to}, Window.{HasHistoryFrom, LawfulFrom}}
use Rattle.sci_windows.proofs.Pairs.{Rises, all_mapped, all_from_mapped, rises_mapped, rises_from_mapped, all_by_nodes, map_agrees, few_in_all}
use Rattle.sci_windows.proofs.Relatives.{to_relative, from_relative, same_contents, relative_at}
use Rattle.sci_windows.proofs.{Merges.{filter-mapped, preimage}, Swaps.{counted_after, swap_first}}

-- ---- logs

pub log_at : (first : List Stamped) (logs : List (List Entry)) (node : ℕ)
    → log_of (relative_logs first logs) node ≡ map (relative_entry first) (log_of logs node)
log_at first logs node = get_or-map (map (relative_entry first)) logs node []

lined : (first : List Stamped) (logs : List (List Entry)) (line node : ℕ)
    → filter (is_on_line line) (log_of (relative_logs first logs) node) ≡ map (relative_entry first) (filter (is_on_line line) (log_of logs node))
lined first logs line node = grind (arith, log_at, filter-mapped)

pub own_relative : (first : List Stamped) (logs : List (List Entry)) → AreOwn logs → AreOwn (relative_logs first logs)
own_relative first logs own node =
    subst (All (λ (e : Entry). e.node ≡ node)) (sym (log_at first logs node))
    (All-from_recursion (λ (e : Entry). e.node ≡ node) (map (relative_entry first) (log_of logs node))
    (all_mapped (relative_entry first) (λ e. e.node ≡ node) (λ e. e.node ≡ node) (λ e is. is) (log_of logs node)
    (recursion_from_All (λ (e : Entry). e.node ≡ node) (log_of logs node) (own node))))

pub within_relative : (first : List Stamped) (lines : ℕ) (logs : List (List Entry)) → AreWithin lines logs → AreWithin lines (relative_logs first logs)
within_relative first lines logs within node =
    subst (All (IsWithin lines)) (sym (log_at first logs node))
    (All-from_recursion (IsWithin lines) (map (relative_entry first) (log_of logs node))
    (all_mapped (relative_entry first) (IsWithin lines) (IsWithin lines) (λ e is. is) (log_of logs node)
    (recursion_from_All (IsWithin lines) (log_of logs node) (within node))))

-- entries on a line are all relative to its first contents
pub on_one_line : (first : List Stamped) (line : ℕ) (es : List Entry) → AllByRecursion (λ e. e.op.line ≡ line) es
    → map (relative_entry first) es ≡ map (relative_to (stamped_at first line)) es
on_one_line first line es on = grind (arith, map_agrees, all_weaker)

-- entries of which each node's are those that it has on a line
all_on_line : (logs : List (List Entry)) (line : ℕ) (es : List Entry) → AllByRecursion (λ e. e.node < MAX_NODES) es
    → ((node : ℕ) → node < MAX_NODES → filter (is_on_line line) (log_of logs node) ≡ filter (is_of_node node) es)
    → AllByRecursion (λ e. e.op.line ≡ line) es
all_on_line logs line es nodes logged = grind (arith, all_by_nodes, all_weaker, eqb-true, all-passes)

-- ---- where a window begins

pub relative_start_line : (words : List ℕ) → relative_line words words ≡ replicate (length words) 0
relative_start_line [] = refl
relative_start_line (w ∷ words) = ap (λ (x : ℕ). x ∷ relative_line words words) (swap_first w) ∙ ap (λ (xs : List ℕ). 0 ∷ xs) (relative_start_line words)

pub relative_start : (first : Stamped) → length first.line ≡ WORDS_PER_LINE → relative_stamped first first ≡ zero_stamped
relative_start first long = grind (arith, counted_after, same_stamped, relative_start_line, replicate)

-- ---- from the window to its relative logs

pub relative_end : (logs : List (List Entry)) (first : List Stamped) (line : ℕ) (last : Stamped) → AreLines first
    → HasHistoryFrom logs line (stamped_at first line) last → HasHistory (relative_logs first logs) line (relative_stamped (stamped_at first line) last)
relative_end logs first line last lines h =
    let from = stamped_at first line in
    let es = h.entries in
    let on = all_on_line logs line es h.nodes h.logged in
    let run : IsHistory (map (relative_to from) es) (relative_stamped from from) (relative_stamped from last) =
    to_relative from es from last h.history (omega arith) refl in
    let begun : IsHistory (map (relative_to from) es) zero_stamped (relative_stamped from last) =
    subst (λ (s : Stamped). IsHistory (map (relative_to from) es) s (relative_stamped from last)) (relative_start from (lines line)) run in
    record {
      entries = map (relative_entry first) es;
      history = subst (λ (xs : List Entry). IsHistory xs zero_stamped (relative_stamped from last)) (sym (on_one_line first line es on)) begun;
      nodes = all_mapped (relative_entry first) (λ e. e.node < MAX_NODES) (λ e. e.node < MAX_NODES) (λ e is. is) es h.nodes;
      logged = λ node lt.
          lined first logs line node ∙ ap (map (relative_entry first)) (h.logged node lt)
          ∙ sym (filter-mapped (relative_entry first) (is_of_node node) (λ e. refl) es);
      serials = λ node lt. subst Rises (sym (lined first logs line node))
          (rises_mapped (relative_entry first) (λ e. refl) (filter (is_on_line line) (log_of logs node)) (h.serials node lt));
    }

pub relative_history : (logs : List (List Entry)) (first last : List Stamped) (line : ℕ) → length first ≡ length last → AreLines first
    → HasHistoryFrom logs line (stamped_at first line) (stamped_at last line)
    → HasHistory (relative_logs first logs) line (stamped_at (relative_contents first last) line)
relative_history logs first last line long lines h = grind (arith, relative_at, relative_end)

pub to_lawful : (logs : List (List Entry)) (first last : List Stamped) → length logs ≡ MAX_NODES → length first ≡ length last → AreLines first
    → LawfulFrom logs first last → Lawful (relative_logs first logs) (relative_contents first last)
to_lawful logs first last sixteen long lines lawful line =
    lawful_line (relative_logs first logs) line (stamped_at (relative_contents first last) line)
    (length-map logs (map (relative_entry first)) ∙ sixteen) (relative_history logs first last line long lines (lawful line))

-- ---- and back

filtered_less : (p : Entry → Bool) (es : List Entry) → length (filter p es) ≤ length es
filtered_less p es = let is = length-filter p es in let low = count_by-le-length p es in omega arith

pub few_makers : (first : List Stamped) (logs : List (List Entry)) (line : ℕ) → length logs ≡ MAX_NODES → AreFew logs
    → maker_count (on_line line (relative_logs first logs)) ≤ 68719476736
few_makers first logs line sixteen few =
    let relative = relative_logs first logs in
    let all = flat_map (λ (log : List Entry). log) relative in
    let many : length relative ≡ 16 = length-map logs (map (relative_entry first)) ∙ sixteen in
    let each : (node : ℕ) → length (log_of relative node) ≤ 4294967296 =
    λ node. let is : length (log_of relative node) ≡ length (log_of logs node) =
    ap length (log_at first logs node) ∙ length-map (log_of logs node) (relative_entry first) in
    let low = few node in omega arith in
    let bound = few_in_all relative each in
    let makers = count_by-le-length is_making (on_line line relative) in
    let on = filtered_less (is_on_line line) all in
    omega arith

-- a history of relative entries is one of the window
pub history_back : (logs : List (List Entry)) (first last : List Stamped) (line : ℕ) (es : List Entry) → length logs ≡ MAX_NODES → AreFew logs
    → length first ≡ length last → AreLines first → AreLines last → AreEarly first
    → IsLawfulLine (relative_logs first logs) line (stamped_at (relative_contents first last) line)
    → IsHistory (map (relative_to (stamped_at first line)) es) zero_stamped (stamped_at (relative_contents first last) line)
    → IsHistory es (stamped_at first line) (stamped_at last line)
history_back logs first last line es sixteen few long lines last_lines early lawful run =
    let from = stamped_at first line in
    let end = stamped_at (relative_contents first last) line in
    let begun : IsHistory (map (relative_to from) es) (relative_stamped from from) end =
    subst (λ (s : Stamped). IsHistory (map (relative_to from) es) s end) (sym (relative_start from (lines line))) run in
    let makers = few_makers first logs line sixteen few in
    let counted = lawful.contents.version in
    let low = early line in
    let found = from_relative from es from end begun (omega arith) refl (omega arith) in
    let at_end = relative_at first last line long in
    let version : (relative_stamped from (stamped_at last line)).version ≡ end.version = ap (λ (s : Stamped). s.version) (sym at_end) in
    let same : found.new ≡ stamped_at last line =
    same_contents from found.new (stamped_at last line) (found.same ∙ at_end) found.long (lines line ∙ sym (last_lines line)) found.low (omega arith) in
    subst (IsHistory es from) same found.history

-- entries of the window whose relative ones are a lawful line's, in the order of their versions
pub record IsPlacedBack (logs : List (List Entry)) (first : List Stamped) (line : ℕ) (end : Stamped) : Type 0 where
  pub entries : List Entry
  pub run : IsHistory (map (relative_to (stamped_at first line)) entries) zero_stamped end
  pub nodes : AllByRecursion (λ e. e.node < MAX_NODES) entries
  pub logged : (node : ℕ) → node < MAX_NODES → filter (is_on_line line) (log_of logs node) ≡ filter (is_of_node node) entries
  pub serials : (node : ℕ) → node < MAX_NODES → Rises (filter (is_on_line line) (log_of logs node))

pub placed_back : (logs : List (List Entry)) (first : List Stamped) (line : ℕ) (end : Stamped) → AreOwn logs → length logs ≡ MAX_NODES
    → IsLawfulLine (relative_logs first logs) line end → IsPlacedBack logs first line end
placed_back logs first line end own sixteen lawful =
    let relative = relative_logs first logs in
    let f = relative_entry first in
    let own_here = own_relative first logs own in
    let sixteen_here : length relative ≡ MAX_NODES = length-map logs (map f) ∙ sixteen in
    let nodes : AllByRecursion (λ e. e.node < MAX_NODES) (placed relative line) =
    all-by_version (λ e. e.node < MAX_NODES) (suc (maker_count (on_line line relative))) (on_line line relative)
    (nodes_on_line relative line own_here sixteen_here) in
    let back = preimage f (λ e. refl) (placed relative line) (λ node. filter (is_on_line line) (log_of logs node)) nodes
    (λ node lt. sym (lined first logs line node) ∙ sym (lawful.order node lt).order) in
    let es = back.entries in
    let own_nodes : AllByRecursion (λ e. e.node < MAX_NODES) es =
    all_from_mapped f (λ e. e.node < MAX_NODES) (λ e. e.node < MAX_NODES) (λ e lt. lt) es
    (subst (AllByRecursion (λ (e : Entry). e.node < MAX_NODES)) (sym back.same) nodes) in
    let on = all_on_line logs line es own_nodes back.own in
    let run : IsHistory (map f es) zero_stamped end =
    subst (λ (xs : List Entry). IsHistory xs zero_stamped end) (sym back.same) (placed_history relative line end own_here sixteen_here lawful) in
    record {
      entries = es;
      run = subst (λ (xs : List Entry). IsHistory xs zero_stamped end) (on_one_line first line es on) run;
      nodes = own_nodes;
      logged = back.own;
      serials = λ node lt. rises_from_mapped f (λ e. refl) (filter (is_on_line line) (log_of logs node))
          (subst Rises (lined first logs line node) (lawful.order node lt).serials);
    }

pub from_lawful_line : (logs : List (List Entry)) (first last : List Stamped) (line : ℕ) → AreOwn logs → length logs ≡ MAX_NODES → AreFew logs
    → length first ≡ length last → AreLines first → AreLines last → AreEarly first
    → IsLawfulLine (relative_logs first logs) line (stamped_at (relative_contents first last) line)
    → HasHistoryFrom logs line (stamped_at first line) (stamped_at last line)
from_lawful_line logs first last line own sixteen few long lines last_lines early lawful =
    let back = placed_back logs first line (stamped_at (relative_contents first last) line) own sixteen lawful in
    record {
      entries = back.entries;
      history = history_back logs first last line back.entries sixteen few long lines last_lines early lawful back.run;
      nodes = back.nodes;
      logged = back.logged;
      serials = back.serials;
    }

pub from_lawful : (logs : List (List Entry)) (first last : List Stamped) → AreOwn logs → length logs ≡ MAX_NODES → AreFew logs
    → length first ≡ length last → AreLines first → AreLines last → AreEarly first
    → Lawful (relative_logs first logs) (relative_contents first last) → LawfulFrom logs first last
from_lawful logs first last own sixteen few long lines last_lines early lawful line =
    from_lawful_line logs first last line own sixteen few long lines last_lines early (lawful line)

-- ---- windows that begin with zeros

zero_lines : (lines line : ℕ) → stamped_at (replicate lines zero_stamped) line ≡ zero_stamped
zero_lines zero line = refl
zero_lines (suc lines) zero = refl
zero_lines (suc lines) (suc line) = zero_lines lines line

pub zeros_to_lawful : (logs : List (List Entry)) (last : List Stamped) (lines : ℕ) → length logs ≡ MAX_NODES
    → LawfulFrom logs (replicate lines zero_stamped) last → Lawful logs last
zeros_to_lawful logs last lines sixteen lawful line =
    let h = lawful line in
    lawful_line logs line (stamped_at last line) sixteen (record {
      entries = h.entries;
      history = subst (λ (s : Stamped). IsHistory h.entries s (stamped_at last line)) (zero_lines lines line) h.history;
      nodes = h.nodes;
      logged = h.logged;
      serials = h.serials;
    })

pub zeros_from_lawful : (logs : List (List Entry)) (last : List Stamped) (lines : ℕ) → AreOwn logs → length logs ≡ MAX_NODES → Lawful logs last
    → LawfulFrom logs (replicate lines zero_stamped) last
zeros_from_lawful logs last lines own sixteen lawful line =
    let here = lawful line in
    record {
      entries = placed logs line;
      history = subst (λ (s : Stamped). IsHistory (placed logs line) s (stamped_at last line)) (sym (zero_lines lines line))
          (placed_history logs line (stamped_at last line) own sixteen here);
      nodes = all-by_version (λ e. e.node < MAX_NODES) (suc (maker_count (on_line line logs))) (on_line line logs) (nodes_on_line logs line own sixteen);
      logged = λ node lt. sym (here.order node lt).order;
      serials = λ node lt. (here.order node lt).serials;
    }
