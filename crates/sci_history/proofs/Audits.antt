-- A line's audit finds no fault exactly if the line is lawful.
use Rattle.std.proofs.Common.{◌≡◌, ℕ, zero, suc, ◌<◌, ◌≤◌, true, false, List, [], ◌∷◌, ◌++◌, length, take, Option, Some, None, refl, sym, ap, ◌∙◌, subst}
use Rattle.std.proofs.{Common.{arith, inl, inr}, lemmas.Bool.{cases_lt, cases_eq, eq-eqb, ne_eqb}}
use Rattle.std.proofs.lemmas.List.{append-nil, take_all, ext_get_or, Concat.{flat_map-append}}
use Rattle.std.proofs.{lemmas.List.Elements.{filter-append, recursion_from_All}, Math.Seq.{take-suc}}
use Rattle.std.specs.{Prelude.{AllPairs}, List.{filter, flat_map, AllByRecursion}}
use Rattle.sci_words.specs.declared.{limits.TheConstants.{MAX_NODES}, stamped.Stamped.{Stamped}}
use Rattle.sci_history.specs.declared.{entry.Entry.{Entry}, verdict.FaultKind.{FaultKind}}
use Rattle.sci_history.specs.declared.verdict.FaultKind.TheVariants.{VersionTwice, VersionMissing, WrongReply, OutOfOrder, LastDiffers}
use Rattle.sci_history.specs.Placed.{log_of, AreOwn, is_of_node, is_on_line, maker_count, on_line, by_version, placed_entries}
use Rattle.sci_history.specs.Lawful.{IsLawfulLine}
use Rattle.sci_history.specs.Audit.{first_twice, first_missing, first_wrong, first_disordered, words_after, HasNoFault, IsLineFault, Names}
use Rattle.sci_history.proofs.Order.{IsInOrder, IsInOrder-filter, filter_all, filter_none, filter-filter, all_weaker, all-append, all-filter}
use Rattle.sci_history.proofs.{Placement.{place, filter-placed, all-by_node_and_serial}, Lawfulness.{lawful_line}}
use Rattle.sci_history.proofs.AuditVersions.{whole_versions_found, twice_from_whole, missing_from_whole}
use Rattle.sci_history.proofs.AuditRuns.{history_found, right_from_run, end_from_run}
use Rattle.sci_history.proofs.AuditOrders.{Rises, rises_found, places_from_rises, serials_from_rises, pairs_from_rises, rises_from_pairs}
use Rattle.sci_history.proofs.{AuditOrders.{ordered_from_rises}, PlacedOrder.{placed_in_order}}

abbrev same_log : List Entry → List Entry
same_log log = log

-- ---- a node's entries among those of all logs

front_of : (logs : List (List Entry)) (node nodes : ℕ) → AreOwn logs → nodes ≤ length logs → nodes ≤ node
    → filter (is_of_node node) (flat_map same_log (take nodes logs)) ≡ []
front_of logs node zero own there le = refl
front_of logs node (suc n) own there le =
    let other : filter (is_of_node node) (log_of logs n) ≡ [] =
    filter_none (is_of_node node) (log_of logs n)
    (all_weaker (λ e. e.node ≡ n) (λ e. is_of_node node e ≡ false) (λ e is. ne_eqb e.node node (λ same. absurd (omega arith))) (log_of logs n)
    (recursion_from_All (λ e. e.node ≡ n) (log_of logs n) (own n))) in
    rw (
      take-suc logs n [] (omega arith),
      flat_map-append same_log (take n logs) (log_of logs n ∷ []),
      append-nil (log_of logs n),
      filter-append (is_of_node node) (flat_map same_log (take n logs)) (log_of logs n),
      front_of logs node n own (omega arith) (omega arith),
      other,
    ) refl

below_other : (n node : ℕ) → node < suc n → (n ≡ node → ⊥) → node < n
below_other n node lt ne = elim (cases_lt node n) [ inl low ↦ low | inr high ↦ absurd (ne (omega arith)) ]

whole_of : (logs : List (List Entry)) (node nodes : ℕ) → AreOwn logs → nodes ≤ length logs → node < nodes
    → filter (is_of_node node) (flat_map same_log (take nodes logs)) ≡ log_of logs node
whole_of logs node zero own there lt = absurd (omega arith)
whole_of logs node (suc n) own there lt =
    let joined : filter (is_of_node node) (flat_map same_log (take (suc n) logs)) ≡ filter (is_of_node node) (flat_map same_log (take n logs))
    ++ filter (is_of_node node) (log_of logs n) =
    rw (take-suc logs n [] (omega arith), flat_map-append same_log (take n logs) (log_of logs n ∷ []), append-nil (log_of logs n))
    (filter-append (is_of_node node) (flat_map same_log (take n logs)) (log_of logs n)) in
    elim (cases_eq n node) [
      | inl here ↦
          let all : filter (is_of_node node) (log_of logs n) ≡ log_of logs n =
          filter_all (is_of_node node) (log_of logs n)
          (all_weaker (λ e. e.node ≡ n) (λ e. is_of_node node e ≡ true) (λ e is. eq-eqb e.node node (is ∙ here)) (log_of logs n)
          (recursion_from_All (λ e. e.node ≡ n) (log_of logs n) (own n))) in
          joined ∙ rw (front_of logs node n own (omega arith) (omega arith), all) (ap (log_of logs) here)
      | inr there_not ↦
          let other : filter (is_of_node node) (log_of logs n) ≡ [] =
          filter_none (is_of_node node) (log_of logs n)
          (all_weaker (λ e. e.node ≡ n) (λ e. is_of_node node e ≡ false) (λ e is. ne_eqb e.node node (λ same. there_not (sym is ∙ same))) (log_of logs n)
          (recursion_from_All (λ e. e.node ≡ n) (log_of logs n) (own n))) in
          joined ∙ rw (whole_of logs node n own (omega arith) (below_other n node lt there_not), other) (append-nil (log_of logs node))
    ]

pub node_on_line : (logs : List (List Entry)) (line node : ℕ) → AreOwn logs → length logs ≡ MAX_NODES → node < MAX_NODES
    → filter (is_of_node node) (on_line line logs) ≡ filter (is_on_line line) (log_of logs node)
node_on_line logs line node own sixteen lt =
    let whole : take MAX_NODES logs ≡ logs = take_all MAX_NODES logs (omega arith) in
    filter-filter (is_of_node node) (is_on_line line) (flat_map same_log logs)
    ∙ ap (λ (es : List Entry). filter (is_on_line line) es)
    (ap (λ (ls : List (List Entry)). filter (is_of_node node) (flat_map same_log ls)) (sym whole) ∙ whole_of logs node MAX_NODES own (omega arith) lt)

nodes_front : (logs : List (List Entry)) (nodes : ℕ) → AreOwn logs → nodes ≤ length logs → nodes ≤ MAX_NODES
    → AllByRecursion (λ e. e.node < MAX_NODES) (flat_map same_log (take nodes logs))
nodes_front logs zero own there few = tt
nodes_front logs (suc n) own there few =
    rw (take-suc logs n [] (omega arith), flat_map-append same_log (take n logs) (log_of logs n ∷ []), append-nil (log_of logs n))
    (all-append (λ e. e.node < MAX_NODES) (flat_map same_log (take n logs)) (log_of logs n) (nodes_front logs n own (omega arith) (omega arith))
    (all_weaker (λ e. e.node ≡ n) (λ e. e.node < MAX_NODES) (λ e is. omega arith) (log_of logs n)
    (recursion_from_All (λ e. e.node ≡ n) (log_of logs n) (own n))))

pub nodes_on_line : (logs : List (List Entry)) (line : ℕ) → AreOwn logs → length logs ≡ MAX_NODES → AllByRecursion (λ e. e.node < MAX_NODES) (on_line line logs)
nodes_on_line logs line own sixteen =
    all-filter (λ e. e.node < MAX_NODES) (is_on_line line) (flat_map same_log logs)
    (subst (λ (ls : List (List Entry)). AllByRecursion (λ e. e.node < MAX_NODES) (flat_map same_log ls)) (take_all MAX_NODES logs (omega arith))
    (nodes_front logs MAX_NODES own (omega arith) (omega arith)))

pub all-by_version : (P : Entry → Type 0) (bound : ℕ) (entries : List Entry) → AllByRecursion P entries → AllByRecursion P (by_version bound entries)
unfolding by_version
all-by_version P zero entries h = tt
all-by_version P (suc version) entries h = grind (arith, all-append, all-by_node_and_serial, all-filter, all-by_version P version entries h)

-- ---- no fault, and so lawful

pub lawful_found : (logs : List (List Entry)) (line : ℕ) (last : Stamped) → AreOwn logs → length logs ≡ MAX_NODES → first_twice (on_line line logs) ≡ None
    → first_missing (on_line line logs) ≡ None → first_wrong (on_line line logs) ≡ None → first_disordered (on_line line logs) ≡ None
    → last.line ≡ words_after (placed_entries (on_line line logs)) → last.version ≡ maker_count (on_line line logs) → IsLawfulLine logs line last
lawful_found logs line last own sixteen twice missing wrong disordered words version =
    let entries = on_line line logs in
    let whole = whole_versions_found entries twice missing in
    let nodes = nodes_on_line logs line own sixteen in
    let node_of : (node : ℕ) → node < MAX_NODES → filter (is_of_node node) entries ≡ filter (is_on_line line) (log_of logs node) =
    λ node lt. node_on_line logs line node own sixteen lt in
    let order : (node : ℕ) → Rises (filter (is_of_node node) entries) = λ node. rises_found entries node disordered in
    let placed_node : (node : ℕ) → node < MAX_NODES → filter (is_of_node node) (placed_entries entries) ≡ filter (is_of_node node) entries =
    λ node lt. filter-placed node (maker_count entries) entries lt (serials_from_rises (filter (is_of_node node) entries) (order node))
    (places_from_rises (filter (is_of_node node) entries) (order node))
    (all-filter (λ e. e.version ≤ maker_count entries) (is_of_node node) entries whole.within) in
    lawful_line logs line last sixteen (record {
      entries = placed_entries entries;
      history = history_found entries last whole nodes wrong words version;
      nodes = all-by_version (λ e. e.node < MAX_NODES) (suc (maker_count entries)) entries nodes;
      logged = λ node lt. sym (placed_node node lt ∙ node_of node lt);
      serials = λ node lt. subst (λ (es : List Entry). AllPairs (λ x y. x.serial < y.serial) es) (node_of node lt)
          (pairs_from_rises (filter (is_of_node node) entries) (order node));
    })

-- ---- lawful, and so no fault

node_rises : (logs : List (List Entry)) (line : ℕ) (last : Stamped) (node : ℕ) → AreOwn logs → length logs ≡ MAX_NODES → IsLawfulLine logs line last
    → Rises (filter (is_of_node node) (on_line line logs))
node_rises logs line last node own sixteen h =
    let entries = on_line line logs in
    elim (cases_lt node MAX_NODES) [
      | inl lt ↦
          let kept = h.order node lt in
          let is = node_on_line logs line node own sixteen lt in
          let places : IsInOrder place (filter (is_of_node node) (placed_entries entries)) =
          IsInOrder-filter place (is_of_node node) (placed_entries entries) (placed_in_order (suc (maker_count entries)) entries) in
          subst Rises (sym is) (rises_from_pairs (filter (is_on_line line) (log_of logs node)) kept.serials
          (subst (λ (es : List Entry). IsInOrder place es) kept.order places))
      | inr past ↦
          let none : filter (is_of_node node) entries ≡ [] =
          filter_none (is_of_node node) entries
          (all_weaker (λ e. e.node < MAX_NODES) (λ e. is_of_node node e ≡ false) (λ e low. ne_eqb e.node node (λ is. absurd (omega arith))) entries
          (nodes_on_line logs line own sixteen)) in
          subst Rises (sym none) tt
    ]

pub no_fault : (logs : List (List Entry)) (line : ℕ) (last : Stamped) → AreOwn logs → length logs ≡ MAX_NODES → IsLawfulLine logs line last
    → HasNoFault (on_line line logs) last
no_fault logs line last own sixteen h =
    let entries = on_line line logs in
    record {
      twice = twice_from_whole entries h.versions;
      missing = missing_from_whole entries h.versions;
      wrong = right_from_run entries last.line h.contents.run;
      disordered = ordered_from_rises entries (λ node. node_rises logs line last node own sixteen h);
      words = end_from_run entries last.line h.contents.run;
      version = h.contents.version;
    }

-- ---- a fault that is named

named_none : (found : Option Entry) (named : Option (ℕ × ℕ)) → Names found named → found ≡ None → ⊥
named_none None named h e = h
named_none (Some entry) named h e = absurd cc

pub fault_or_none : (entries : List Entry) (last : Stamped) (kind : FaultKind) (named : Option (ℕ × ℕ)) → IsLineFault entries last kind named
    → HasNoFault entries last → ⊥
fault_or_none entries last VersionTwice named h k = named_none (first_twice entries) named h k.twice
fault_or_none entries last VersionMissing named h k = named_none (first_missing entries) named h.1 k.missing
fault_or_none entries last WrongReply named h k = named_none (first_wrong entries) named h.2 k.wrong
fault_or_none entries last OutOfOrder named h k = named_none (first_disordered entries) named h.3 k.disordered
fault_or_none entries last LastDiffers named h k = h.5 (k.words, k.version)

-- ---- logs, from all their entries

pub own_entries : (logs : List (List Entry)) (node : ℕ) → AreOwn logs → length logs ≡ MAX_NODES → node < MAX_NODES
    → filter (is_of_node node) (flat_map same_log logs) ≡ log_of logs node
own_entries logs node own sixteen lt =
    let whole : take MAX_NODES logs ≡ logs = take_all MAX_NODES logs (omega arith) in
    ap (λ (ls : List (List Entry)). filter (is_of_node node) (flat_map same_log ls)) (sym whole) ∙ whole_of logs node MAX_NODES own (omega arith) lt

pub same_logs : (a b : List (List Entry)) → AreOwn a → AreOwn b → length a ≡ MAX_NODES → length b ≡ MAX_NODES → flat_map same_log a ≡ flat_map same_log b
    → a ≡ b
same_logs a b own other long sixteen e =
    ext_get_or [] a b (long ∙ sym sixteen) (λ node lt.
    let low : node < MAX_NODES = omega arith in
    sym (own_entries a node own long low) ∙ ap (filter (is_of_node node)) e ∙ own_entries b node other sixteen low)
