-- Entries that stand by node and serial already are left so.
use Rattle.std.proofs.Common.{◌≡◌, ℕ, suc, ◌+◌, ◌<◌, ◌≤◌, Bool, true, Some, List, [], ◌∷◌, length, get_or, sym, ◌∙◌, subst, arith, inl, inr}
use Rattle.std.proofs.lemmas.{Bool.{cases_eq, eq-eqb, ne_eqb, eqb-true}, List.Elements.{recursion_from_All}}
use Rattle.std.proofs.lemmas.{Bool.Decides.{nat_tests}, List.{length-map}}
use Rattle.std.specs.{List.{filter, AllByRecursion, IsAllAdjacentAnswer}, Prelude.{All}}
use Rattle.std.specs.Ordering.{is_le, is_some_and, nat_cmp, partial_ordering_then}
use denote.Ref.{Bor}
use Rattle.sci_words.specs.declared.limits.TheConstants.{MAX_NODES}
use Rattle.sci_history.specs.declared.entry.Entry.{Entry}
use Rattle.sci_history.specs.{Placed.{is_of_node, in_order, above_serials, by_node_and_serial}, Audit.{entries_of}}
use Rattle.sci_history.proofs.Order.{IsInOrder, HasKeysBelow, all_weaker, all-filter, all-passes, all_both, filter_yes, filter_no, filter-in_order}
use Rattle.sci_history.proofs.{Order.{in_order_same, in_order-ordered}, Placement.{above_serials-above}}
use Rattle.sci_history.proofs.AuditFinds.{entry_at, entries_at, no_entry, no_ref}

-- the node doesn't fall, nor within a node the serial
abbrev Stands : Entry → Entry → Type 0
Stands first second = (first.node ≤ second.node) × (first.node ≡ second.node → first.serial ≤ second.serial)

-- by node and serial, as a look at two entries compares them
abbrev pub is_read_before : Entry → Entry → Bool
is_read_before first second = is_some_and is_le (partial_ordering_then (Some (nat_cmp first.node second.node)) (Some (nat_cmp first.serial second.serial)))

stands : (first second : Entry) → is_read_before first second ≡ true → Stands first second
stands first second before = (grind (arith, nat_tests), λ same. grind (arith, nat_tests))

stands_over : (first second third : Entry) → Stands first second → Stands second third → Stands first third
stands_over first second third low high = grind arith

abbrev AreRead : List Entry → Type 0
AreRead [] = Unit {0}
AreRead (entry ∷ entries) = AllByRecursion (Stands entry) entries × AreRead entries

are_read : (entries : List Entry) → ((k : ℕ) → k + 1 < length entries → Stands (get_or entries k no_entry) (get_or entries (k + 1) no_entry)) → AreRead entries
are_read [] h = tt
are_read (entry ∷ []) h = (tt, tt)
are_read (entry ∷ second ∷ entries) h =
    let next : (k : ℕ) → suc k + 1 ≡ suc (k + 1) = λ k. omega arith in
    let rest = are_read (second ∷ entries)
    (λ k lt. subst (λ (n : ℕ). Stands (get_or (second ∷ entries) k no_entry) (get_or (entry ∷ second ∷ entries) n no_entry)) (next k)
    (h (suc k) (omega arith))) in
    let step : Stands entry second = h 0 (omega arith) in
    ((step, all_weaker (Stands second) (Stands entry) (λ third high. stands_over entry second third step high) entries rest.0), rest)

nodes_rise : (entries : List Entry) → AreRead entries → IsInOrder (λ entry. entry.node) entries
nodes_rise [] h = tt
nodes_rise (entry ∷ entries) h =
    (all_weaker (Stands entry) (λ other. entry.node ≤ other.node) (λ other s. s.0) entries h.0, nodes_rise entries h.1)

serials_rise : (node : ℕ) (entries : List Entry) → AreRead entries → IsInOrder (λ entry. entry.serial) (filter (is_of_node node) entries)
serials_rise node [] h = tt
serials_rise node (entry ∷ entries) h =
    let p = is_of_node node in
    let rest = serials_rise node entries h.1 in
    elim (cases_eq entry.node node) [
      | inl own ↦
          let passed = all_both (Stands entry) (λ other. p other ≡ true) (filter p entries) (all-filter (Stands entry) p entries h.0) (all-passes p entries) in
          let above = all_weaker (λ other. Stands entry other × (p other ≡ true)) (λ other. entry.serial ≤ other.serial)
          (λ other s. s.0.1 (own ∙ sym (eqb-true other.node node s.1))) (filter p entries) passed in
          rw (filter_yes p entry entries (eq-eqb entry.node node own)) (above, rest)
      | inr other ↦ rw (filter_no p entry entries (ne_eqb entry.node node other)) rest
    ]

in_read_order : (entries : List Entry) → HasKeysBelow (λ entry. entry.node) MAX_NODES entries → AreRead entries → by_node_and_serial entries ≡ entries
in_read_order entries nodes read =
    let bound = above_serials entries in
    let low = above_serials-above entries bound (omega arith) in
    let same : (node : ℕ) → node < MAX_NODES → filter (is_of_node node) (in_order (λ entry. entry.serial) bound entries) ≡ filter (is_of_node node) entries =
    λ node lt. filter-in_order (is_of_node node) (λ entry. entry.serial) bound entries
    ∙ in_order-ordered (λ entry. entry.serial) bound (filter (is_of_node node) entries) (serials_rise node entries read)
    (all-filter (λ entry. entry.serial < bound) (is_of_node node) entries low) in
    in_order_same (λ entry. entry.node) MAX_NODES (in_order (λ entry. entry.serial) bound entries) entries same
    ∙ in_order-ordered (λ entry. entry.node) MAX_NODES entries (nodes_rise entries read) nodes

-- what a look at each entry and the next finds
pub read_in_order : (refs : List (Bor Entry)) → All (λ entry. entry.node < MAX_NODES) (entries_of refs)
    → IsAllAdjacentAnswer (λ x y b. b ≡ is_read_before x.now y.now) refs true → by_node_and_serial (entries_of refs) ≡ entries_of refs
read_in_order refs nodes answer = grind (arith, length-map, no_entry, entries_at, stands, entry_at, no_ref, in_read_order, recursion_from_All, are_read)
