-- Stable sorts of the entries of a line, each with its line of the text.
use Rattle.std.proofs.Common.{◌≡◌, ◌+◌, ◌<◌, ℕ, Bool, true, not, List, length, map, refl, sym, ap, ◌∙◌, arith}
use Rattle.std.proofs.lemmas.{Bool.{cases_Bool, cases_order, eq-eqb, ne_eqb, lt-ltb, le-ltb}, List.{length-map, get_or-map}, Simd.{map-map}}
use Rattle.std.specs.{List.{filter, IsAllAdjacentAnswer, Sorted.{IsStableBy, ties}}, Ordering.{is_lt, nat_cmp}}
use Rattle.sci_history.specs.{declared.entry.Entry.{Entry}, Placed.{is_making}}
use Rattle.sci_history.proofs.{Order.{filter-implied}, PlacedSort.{Holds, is_placed_under}, ReadOrder.{is_read_before}}
use Rattle.sci_reports.specs.{declared.numbered.Numbered.{Numbered}, EntryLines.{entries_in, entry_of, entry_refs}, Placed.{ties_with}}

abbrev pub numbered_as : Entry → Numbered
numbered_as e = record { text_line = 0; entry = record { ref_ptr = (0, 0); now = e } }

pub numbered_hold : Holds entry_of
numbered_hold = record { at = numbered_as; at_is = λ e. refl }

pub entries_are : (list : List Numbered) → entries_in list ≡ map entry_of list
entries_are list = map-map (λ ref. ref.now) (λ it. it.entry) list

-- ---- the keys of the three sorts

abbrev pub serial : Numbered → ℕ
serial it = (entry_of it).serial

abbrev pub node : Numbered → ℕ
node it = (entry_of it).node

abbrev pub place : Numbered → ℕ × Bool
place it = ((entry_of it).version, not (is_making (entry_of it)))

-- ---- ties

abbrev pub is_serial_under : Numbered → Numbered → Bool
is_serial_under x y = is_lt (nat_cmp (serial x) (serial y))

abbrev pub is_node_under : Numbered → Numbered → Bool
is_node_under x y = is_lt (nat_cmp (node x) (node y))

-- entries that tie do so in each of the sorts
pub serials_tie : (x y : Numbered) → ties_with (entry_of x) (entry_of y) ≡ true → ties is_serial_under x y ≡ true
serials_tie x y tied = grind (arith, cases_Bool, cases_order, le-ltb, eq-eqb, lt-ltb, ne_eqb)

pub nodes_tie : (x y : Numbered) → ties_with (entry_of x) (entry_of y) ≡ true → ties is_node_under x y ≡ true
nodes_tie x y tied = grind (arith, cases_Bool, cases_order, le-ltb, eq-eqb, lt-ltb, ne_eqb)

pub places_tie : (x y : Numbered) → ties_with (entry_of x) (entry_of y) ≡ true → ties (is_placed_under entry_of numbered_hold) x y ≡ true
places_tie x y tied = grind (arith, cases_Bool, cases_order, le-ltb, eq-eqb, lt-ltb, ne_eqb)

-- what ties with an entry stands after a stable sort as it did
pub stays : (entry : Entry) (lt : Numbered → Numbered → Bool) (xs ys : List Numbered)
    → ((y : Numbered) → ties_with entry (entry_of y) ≡ true → ties lt (numbered_as entry) y ≡ true) → IsStableBy lt xs ys
    → filter (λ it. ties_with entry (entry_of it)) ys ≡ filter (λ it. ties_with entry (entry_of it)) xs
stays entry lt xs ys tied stable =
    let passes : Numbered → Bool = λ it. ties_with entry (entry_of it) in
    let one = numbered_as entry in
    sym (filter-implied passes (ties lt one) tied ys) ∙ ap (filter passes) (stable one) ∙ filter-implied passes (ties lt one) tied xs

-- ---- what a look at each entry and the next finds

pub looked_at : (list : List Numbered) → IsAllAdjacentAnswer (λ x y b. b ≡ is_read_before (entry_of x) (entry_of y)) list true
    → IsAllAdjacentAnswer (λ x y b. b ≡ is_read_before x.now y.now) (entry_refs list) true
looked_at list answer = λ k ref below.
    let it : Numbered = record { text_line = 0; entry = ref } in
    let within : k + 1 < length list = rw length-map at below in
    let low = get_or-map (λ (it : Numbered). it.entry) list k it ref (omega (arith, within)) in
    let high = get_or-map (λ (it : Numbered). it.entry) list (k + 1) it ref within in
    rw (low, high) (answer k it within)
