-- Stable sorts by serial, by node, and by version with its maker first, put entries in placed order.
use Rattle.std.proofs.Common.{◌≡◌, ℕ, zero, suc, ◌+◌, ◌/◌, ◌%◌, ◌<◌, Bool, cond, ltb, not, List, map, refl, sym, ap, ◌∙◌, subst, arith}
use Rattle.std.proofs.lemmas.Bool.{cases_Bool, cases_order, eq-eqb, ne_eqb, lt-ltb, le-ltb}
use Rattle.std.proofs.lemmas.List.Elements.{recursion_from_All}
use Rattle.std.specs.{Prelude.{All}, List.Sorted.{IsPermutation, IsSortedBy, IsStableBy}}
use Rattle.std.specs.Ordering.{is_lt, nat_cmp, bool_cmp, ordering_then}
use denote.Ref.{Bor}
use Rattle.sci_words.specs.declared.{limits.TheConstants.{MAX_NODES}, operation.Act.{Act, TheVariants.{Load, Store}}}
use Rattle.sci_words.specs.declared.operation.Reply.TheVariants.{Stored}
use Rattle.sci_history.specs.declared.entry.Entry.{Entry}
use Rattle.sci_history.specs.Placed.{is_making, in_order, above_serials, in_serial_order, by_node_and_serial, by_version}
use Rattle.sci_history.proofs.Order.{HasKeysBelow, all_weaker, all-in_order}
use Rattle.sci_history.proofs.Placement.{place, place-below, above_serials-above, by_version-in_order, all-by_node_and_serial}
use Rattle.sci_history.proofs.Sorting.{Compares, sorted_is, map-in_order, keys_below_map}

is_lt-nat_cmp : (a b : ℕ) → is_lt (nat_cmp a b) ≡ ltb a b
is_lt-nat_cmp a b = grind (arith, cases_order, le-ltb, eq-eqb, lt-ltb, ne_eqb)

-- what has an entry, and for each entry something that has it
pub record Holds {X : Type 0} (entry : X → Entry) : Type 0 where
  pub at : Entry → X
  pub at_is : (e : Entry) → entry (at e) ≡ e

pub refs_hold : Holds (λ (ref : Bor Entry). ref.now)
refs_hold = record { at = λ e. record { ref_ptr = (0, 0); now = e }; at_is = λ e. refl }

entry_with : ℕ → ℕ → ℕ → Act → Entry
entry_with node serial version act = record { node = node; serial = serial; op = record { line = 0; word = 0; act = act }; reply = Stored; version = version }

-- two numbers and two tests, compared as one number
compares_both : (a b : ℕ) (p q : Bool) → is_lt (ordering_then (nat_cmp a b) (bool_cmp (not p) (not q))) ≡ ltb (a + a + cond p 0 1) (b + b + cond q 0 1)
compares_both a b p q = grind (arith, cases_order, cases_Bool, le-ltb, eq-eqb, lt-ltb, ne_eqb)

act_of : ℕ → Act
act_of zero = Store 0
act_of (suc k) = Load

at_place : ℕ → Entry
at_place k = entry_with 0 0 (k / 2) (act_of (k % 2))

half_is : (k rest : ℕ) → k % 2 ≡ rest → rest < 2 → place (entry_with 0 0 (k / 2) (act_of rest)) ≡ k
unfolding entry_with act_of
half_is k zero e lt = omega arith
half_is k (suc zero) e lt = omega arith
half_is k (suc (suc rest)) e lt = absurd (omega arith)

at_place_is : (k : ℕ) → place (at_place k) ≡ k
unfolding at_place
at_place_is k = half_is k (k % 2) refl (omega arith)

pub record Sorts {X : Type 0} (lt : X → X → Bool) (xs ys : List X) : Type 0 where
  pub sorted : IsSortedBy lt ys
  pub stable : IsStableBy lt xs ys
  pub moved : IsPermutation xs ys

-- a log's entries, sorted by serial
pub sorted_by_serial : (xs ys : List Entry) → Sorts (λ x y. is_lt (nat_cmp x.serial y.serial)) xs ys → ys ≡ in_serial_order xs
unfolding entry_with
sorted_by_serial xs ys h =
    sorted_is (λ x y. is_lt (nat_cmp x.serial y.serial)) (λ e. e.serial) (λ k. entry_with 0 k 0 Load) (λ x y. is_lt-nat_cmp x.serial y.serial) (λ k. refl)
    (above_serials xs) xs ys h.sorted h.stable h.moved (above_serials-above xs (above_serials xs) (omega arith))

module _ {X : Type 0} (entry : X → Entry) (held : Holds entry) where
  -- what a sort by a number of an entry leaves
  keyed : (lt : X → X → Bool) (key : Entry → ℕ) (with : ℕ → Entry) → Compares lt (λ x. key (entry x)) → ((k : ℕ) → key (with k) ≡ k) → (bound : ℕ)
      (xs ys : List X) → Sorts lt xs ys → HasKeysBelow key bound (map entry xs) → map entry ys ≡ in_order key bound (map entry xs)
  keyed lt key with compares with_is bound xs ys h below =
      ap (map entry) (sorted_is lt (λ x. key (entry x)) (λ k. held.at (with k)) compares (λ k. ap key (held.at_is (with k)) ∙ with_is k) bound xs ys h.sorted
      h.stable h.moved (keys_below_map entry key bound xs below))
      ∙ map-in_order entry key bound xs

  after_serial : (xs ys : List X) → Sorts (λ x y. is_lt (nat_cmp (entry x).serial (entry y).serial)) xs ys → map entry ys ≡ in_serial_order (map entry xs)
  unfolding entry_with
  after_serial xs ys h =
      let bound = above_serials (map entry xs) in
      keyed (λ x y. is_lt (nat_cmp (entry x).serial (entry y).serial)) (λ e. e.serial) (λ k. entry_with 0 k 0 Load)
      (λ x y. is_lt-nat_cmp (entry x).serial (entry y).serial) (λ k. refl) bound xs ys h (above_serials-above (map entry xs) bound (omega arith))

  after_node : (xs ys : List X) → HasKeysBelow (λ e. e.node) MAX_NODES (map entry xs) → Sorts (λ x y. is_lt (nat_cmp (entry x).node (entry y).node)) xs ys
      → map entry ys ≡ in_order (λ e. e.node) MAX_NODES (map entry xs)
  unfolding entry_with
  after_node xs ys below h =
      keyed (λ x y. is_lt (nat_cmp (entry x).node (entry y).node)) (λ e. e.node) (λ k. entry_with k 0 0 Load)
      (λ x y. is_lt-nat_cmp (entry x).node (entry y).node) (λ k. refl) MAX_NODES xs ys h below

  -- by version, and at each version its makers first
  abbrev pub is_placed_under : X → X → Bool
  is_placed_under x y =
      is_lt (ordering_then (nat_cmp (entry x).version (entry y).version) (bool_cmp (not (is_making (entry x))) (not (is_making (entry y)))))

  after_place : (bound : ℕ) (xs ys : List X) → HasKeysBelow place bound (map entry xs) → Sorts is_placed_under xs ys
      → map entry ys ≡ in_order place bound (map entry xs)
  after_place bound xs ys below h =
      keyed is_placed_under place at_place (λ x y. compares_both (entry x).version (entry y).version (is_making (entry x)) (is_making (entry y))) at_place_is
      bound xs ys h below

  pub sorted_by_node : (xs a b : List X) → All (λ e. e.node < MAX_NODES) (map entry xs)
      → Sorts (λ x y. is_lt (nat_cmp (entry x).serial (entry y).serial)) xs a → Sorts (λ x y. is_lt (nat_cmp (entry x).node (entry y).node)) a b
      → map entry b ≡ by_node_and_serial (map entry xs)
  sorted_by_node xs a b nodes serials by_nodes =
      let entries = map entry xs in
      let serial_is = after_serial xs a serials in
      let in_nodes = recursion_from_All (λ e. e.node < MAX_NODES) entries nodes in
      after_node a b (subst (HasKeysBelow (λ e. e.node) MAX_NODES) (sym serial_is)
      (all-in_order (λ e. e.node < MAX_NODES) (λ e. e.serial) (above_serials entries) entries in_nodes)) by_nodes
      ∙ ap (in_order (λ e. e.node) MAX_NODES) serial_is

  pub sorted_placed : (bound : ℕ) (entries : List Entry) (b c : List X) → All (λ e. e.version < bound) entries → map entry b ≡ by_node_and_serial entries
      → Sorts is_placed_under b c → map entry c ≡ by_version bound entries
  sorted_placed bound entries b c versions node_is places =
      let in_bound = recursion_from_All (λ e. e.version < bound) entries versions in
      let below : HasKeysBelow place (bound + bound) (by_node_and_serial entries) =
      all-by_node_and_serial (λ e. place e < bound + bound) entries
      (all_weaker (λ e. e.version < bound) (λ e. place e < bound + bound) (λ e lt. place-below e bound lt) entries in_bound) in
      after_place (bound + bound) b c (subst (HasKeysBelow place (bound + bound)) (sym node_is) below) places
      ∙ ap (in_order place (bound + bound)) node_is
      ∙ sym (by_version-in_order bound entries)
