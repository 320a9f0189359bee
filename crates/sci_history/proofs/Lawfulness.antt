-- Logs of which each line has a history are lawful.
use Rattle.std.proofs.Common.{◌≡◌, ℕ, suc, ◌<◌, ◌≤◌, Bool, true, List, [], ◌∷◌, length, map, refl, sym, ap, ◌∙◌, arith}
use Rattle.std.proofs.lemmas.{Bool.{and_right, ne_eqb, cases_Bool, and_left, eqb-true}, List.Sums.{length-filter}}
use Rattle.std.specs.{Prelude.{IsTrue, count_by}, List.{filter, AllByRecursion}}
use Rattle.sci_words.specs.declared.{limits.TheConstants.{MAX_NODES}, stamped.Stamped.{Stamped}}
use Rattle.sci_words.specs.Stamped.{zero_line, zero_stamped}
use Rattle.sci_history.specs.{declared.entry.Entry.{Entry}, Memory.{IsLineRun}}
use Rattle.sci_history.specs.Placed.{log_of, is_of_node, is_on_line, is_making, makes, maker_count, on_line, pair_of, in_order, by_version}
use Rattle.sci_history.specs.{Lawful.{HasWholeVersions, IsLawfulLine}, History.{IsHistory, HasHistory, words_at}}
use Rattle.sci_history.proofs.Order.{IsInOrder, IsInOrder-filter, filter-in_order, in_order-ordered, in_order_same_key, length-in_order, all_weaker}
use Rattle.sci_history.proofs.Order.{all-filter, all-passes, all-in_order, filter_none}
use Rattle.sci_history.proofs.Placement.{place, in_order_from_rising, on_line-logs, filter-placed}
use Rattle.sci_history.proofs.Histories.{Agrees, versions-within, makers-after, makers-counted, places-rise, maker_of, words_at-end, words_at-start}
use Rattle.sci_history.proofs.{Histories.{history-agrees}, LineRuns.{Explains, versions_run}}

-- a history's entries, node by node
abbrev pub by_node : List Entry → List Entry
by_node entries = in_order (λ entry. entry.node) MAX_NODES entries

abbrev pub HasNodes : List Entry → Type 0
HasNodes entries = AllByRecursion (λ entry. entry.node < MAX_NODES) entries

one_in_order : (p : Entry → Bool) (entries : List Entry) (entry : Entry) → HasNodes entries → filter p entries ≡ entry ∷ []
    → filter p (by_node entries) ≡ entry ∷ []
one_in_order p entries entry nodes is = grind (arith, all-filter, filter-in_order, in_order-ordered)

counted : (p : Entry → Bool) (entries : List Entry) → HasNodes entries → count_by p (by_node entries) ≡ length (filter p entries)
counted p entries nodes =
    sym (length-filter p (by_node entries))
    ∙ ap length (filter-in_order p (λ e. e.node) MAX_NODES entries)
    ∙ length-in_order (λ e. e.node) MAX_NODES (filter p entries) (all-filter (λ e. e.node < MAX_NODES) p entries nodes)

maker_count-by_node : (entries : List Entry) (last : Stamped) → HasNodes entries → IsHistory entries zero_stamped last
    → maker_count (by_node entries) ≡ last.version
maker_count-by_node entries last nodes h = grind (arith, makers-counted, counted)

whole_versions : (entries : List Entry) (last : Stamped) → HasNodes entries → IsHistory entries zero_stamped last → HasWholeVersions (by_node entries)
whole_versions entries last nodes h =
    let count = maker_count-by_node entries last nodes h in
    record {
      once = λ version low high.
          let maker = maker_of entries zero_stamped last version h (omega arith) (omega arith) in
          counted (makes version) entries nodes ∙ ap length maker.1;
      makers = all-in_order (λ e. IsTrue (is_making e) → 1 ≤ e.version) (λ e. e.node) MAX_NODES entries
          (all_weaker (λ e. IsTrue (is_making e) → 0 < e.version) (λ e. IsTrue (is_making e) → 1 ≤ e.version) (λ e above maker. let lt = above maker in
          omega arith) entries (makers-after entries zero_stamped last h));
      within = all-in_order (λ e. e.version ≤ maker_count (by_node entries)) (λ e. e.node) MAX_NODES entries
          (all_weaker (λ e. e.version ≤ last.version) (λ e. e.version ≤ maker_count (by_node entries)) (λ e le. omega arith) entries
          (versions-within entries zero_stamped last h));
    }

no_maker_of_zero : (entries : List Entry) (last : Stamped) → IsHistory entries zero_stamped last → filter (makes 0) entries ≡ []
no_maker_of_zero entries last h = grind (arith, filter_none, all_weaker, cases_Bool, and_right, ne_eqb, and_left, makers-after)

explained : (entries : List Entry) (last : Stamped) → HasNodes entries → IsHistory entries zero_stamped last
    → Explains (words_at zero_line entries) last.version (by_node entries)
explained entries last nodes h =
    let words = words_at zero_line entries in
    record {
      agree = all-in_order (Agrees words) (λ e. e.node) MAX_NODES entries (history-agrees entries zero_stamped last words h (λ version le. refl));
      nodes = all-in_order (λ e. e.node < MAX_NODES) (λ e. e.node) MAX_NODES entries nodes;
      none = filter-in_order (makes 0) (λ e. e.node) MAX_NODES entries ∙ ap by_node (no_maker_of_zero entries last h)
          ∙ in_order-ordered (λ (e : Entry). e.node) MAX_NODES [] tt tt;
      one = λ version lt.
          let maker = maker_of entries zero_stamped last (suc version) h (omega arith) (omega arith) in
          (maker.0, one_in_order (makes (suc version)) entries maker.0 nodes maker.1);
    }

placed_run : (entries : List Entry) (last : Stamped) → HasNodes entries → IsHistory entries zero_stamped last
    → IsLineRun (map pair_of (by_version (suc (maker_count (by_node entries))) (by_node entries))) zero_line last.line
placed_run entries last nodes h =
    let words = words_at zero_line entries in
    let run = versions_run words last.version last.version (by_node entries) (explained entries last nodes h) (omega arith) in
    let first : words 0 ≡ zero_line = words_at-start entries zero_stamped last h in
    let end : words last.version ≡ last.line = words_at-end entries zero_stamped last last.version h (omega arith) in
    rw (maker_count-by_node entries last nodes h, ← first, ← end) run

own_entries : (entries : List Entry) (node : ℕ) → node < MAX_NODES → filter (is_of_node node) (by_node entries) ≡ filter (is_of_node node) entries
own_entries entries node lt =
    filter-in_order (is_of_node node) (λ e. e.node) MAX_NODES entries
    ∙ in_order_same_key (λ e. e.node) MAX_NODES node (filter (is_of_node node) entries) lt
    (all_weaker (λ e. is_of_node node e ≡ true) (λ e. e.node ≡ node) (λ e is. eqb-true e.node node is) (filter (is_of_node node) entries)
    (all-passes (is_of_node node) entries))

kept_order : (logs : List (List Entry)) (line : ℕ) (last : Stamped) (h : HasHistory logs line last) (node : ℕ) → node < MAX_NODES
    → filter (is_of_node node) (by_version (suc (maker_count (by_node h.entries))) (by_node h.entries)) ≡ filter (is_on_line line) (log_of logs node)
kept_order logs line last h node lt =
    let entries = h.entries in
    let own = filter (is_of_node node) entries in
    let is = own_entries entries node lt in
    let count = maker_count-by_node entries last h.nodes h.history in
    let serials : IsInOrder (λ e. e.serial) own =
    rw (← h.logged node lt) (in_order_from_rising (λ e. e.serial) (filter (is_on_line line) (log_of logs node)) (h.serials node lt)) in
    let places : IsInOrder place own = IsInOrder-filter place (is_of_node node) entries (places-rise entries zero_stamped last h.history) in
    let within : AllByRecursion (λ e. e.version ≤ last.version) own =
    all-filter (λ e. e.version ≤ last.version) (is_of_node node) entries (versions-within entries zero_stamped last h.history) in
    rw count (filter-placed node last.version (by_node entries) lt (rw is serials) (rw is places) (rw is within) ∙ is ∙ sym (h.logged node lt))

pub lawful_line : (logs : List (List Entry)) (line : ℕ) (last : Stamped) → length logs ≡ MAX_NODES → HasHistory logs line last → IsLawfulLine logs line last
lawful_line logs line last sixteen h =
    let entries = h.entries in
    let is : on_line line logs ≡ by_node entries = on_line-logs logs line entries sixteen h.logged in
    record {
      versions = rw is (whole_versions entries last h.nodes h.history);
      contents = record {
        run = rw is (placed_run entries last h.nodes h.history);
        version = rw is (sym (maker_count-by_node entries last h.nodes h.history));
      };
      order = λ node lt. record { order = rw is (kept_order logs line last h node lt); serials = h.serials node lt };
    }
