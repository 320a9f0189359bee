-- What an audit's fourth kind says: each node's entries stand in order.
use Rattle.std.proofs.Common.{◌≡◌, ℕ, zero, suc, ◌<◌, ◌≤◌, true, false, ltb, not, List, [], ◌∷◌, ◌++◌, length, get_or, Option, Some, None, refl, sym, ap}
use Rattle.std.proofs.Common.{◌∙◌, subst, append_assoc, arith}
use Rattle.std.proofs.lemmas.Bool.{cases_Bool, cases_eq, cases_order, eq-eqb, ne_eqb, ltb-true, lt-ltb, le-ltb, le-leb, and_parts, and_from, not-false}
use Rattle.std.proofs.lemmas.{Bool.{both_ways}, List.{append-nil, Elements.{filter-append, All-from_recursion}}}
use Rattle.std.specs.{Prelude.{AllPairs, IfSome}, List.{filter, AllByRecursion}}
use Rattle.sci_history.specs.{declared.entry.Entry.{Entry}, Placed.{is_of_node}}
use Rattle.sci_history.specs.Audit.{last_entry, is_placed_before, breaks_order, is_out_of_order, first_disordered}
use Rattle.sci_history.proofs.Order.{IsInOrder, filter_yes, filter_no, all_weaker}
use Rattle.sci_history.proofs.Placement.{place, pairs-head, pairs-tail}
use Rattle.sci_history.proofs.AuditVersions.{NoneFail, none_fail, from_none_fail}

-- ---- two entries

-- Of two entries with rising serials, the first is placed before the second exactly if its place isn't above.
place_from_before : (p e : Entry) → p.serial < e.serial → is_placed_before p e ≡ true → place p ≤ place e
place_from_before p e lt h = grind (arith, cases_order, cases_Bool, both_ways, le-ltb, eq-eqb, ne_eqb)

before_from_place : (p e : Entry) → p.serial < e.serial → place p ≤ place e → is_placed_before p e ≡ true
before_from_place p e lt le = grind (arith, cases_order, cases_Bool, le-ltb, eq-eqb, le-leb, lt-ltb)

-- serial and place rise from one to the other
abbrev pub Follows : Entry → Entry → Type 0
Follows p e = (p.serial < e.serial) × (place p ≤ place e)

follows : (p e : Entry) → breaks_order (Some p) e ≡ false → Follows p e
follows p e h = grind (arith, and_parts, not-false, ltb-true, place_from_before)

from_follows : (p e : Entry) → Follows p e → breaks_order (Some p) e ≡ false
from_follows p e h = ap not (and_from (ltb p.serial e.serial) (is_placed_before p e) (lt-ltb p.serial e.serial h.0) (before_from_place p e h.0 h.1))

-- ---- a node's entries, one after the other

abbrev Linked : Option Entry → List Entry → Type 0
Linked previous [] = Unit {0}
Linked previous (entry ∷ entries) = (breaks_order previous entry ≡ false) × Linked (Some entry) entries

pub last_of-push : (found : Option Entry) (before : List Entry) (entry : Entry) → last_entry found (before ++ entry ∷ []) ≡ Some entry
last_of-push found [] entry = refl
last_of-push found (first ∷ before) entry = last_of-push (Some first) before entry

linked : (node : ℕ) (before entries : List Entry) → NoneFail is_out_of_order before entries
    → Linked (last_entry None (filter (is_of_node node) before)) (filter (is_of_node node) entries)
linked node before [] h = tt
linked node before (entry ∷ entries) h =
    grind (arith, filter-append, cases_eq, eq-eqb, filter_yes, last_of-push, ne_eqb, filter_no, append-nil, linked node (before ++ entry ∷ []) entries h.1)

abbrev pub RisesFrom : Entry → List Entry → Type 0
RisesFrom previous entries = AllByRecursion (λ e. Follows previous e) entries

-- each two follow
abbrev pub Rises : List Entry → Type 0
Rises [] = Unit {0}
Rises (entry ∷ entries) = RisesFrom entry entries × Rises entries

rises_from : (previous : Entry) (entries : List Entry) → Linked (Some previous) entries → RisesFrom previous entries × Rises entries
rises_from previous [] h = (tt, tt)
rises_from previous (entry ∷ entries) h = grind (arith, follows, all_weaker, rises_from entry entries h.1)

rises : (entries : List Entry) → Linked None entries → Rises entries
rises [] h = tt
rises (entry ∷ entries) h = rises_from entry entries h.1

pub rises_found : (entries : List Entry) (node : ℕ) → first_disordered entries ≡ None → Rises (filter (is_of_node node) entries)
rises_found entries node h = rises (filter (is_of_node node) entries) (linked node [] entries (none_fail is_out_of_order [] entries h))

pub places_from_rises : (entries : List Entry) → Rises entries → IsInOrder place entries
places_from_rises [] h = tt
places_from_rises (entry ∷ entries) h =
    (all_weaker (λ e. Follows entry e) (λ e. place entry ≤ place e) (λ e f. f.1) entries h.0, places_from_rises entries h.1)

pub serials_from_rises : (entries : List Entry) → Rises entries → IsInOrder (λ e. e.serial) entries
serials_from_rises [] h = tt
serials_from_rises (entry ∷ entries) h =
    (all_weaker (λ e. Follows entry e) (λ e. entry.serial ≤ e.serial) (λ e f. let lt = f.0 in omega arith) entries h.0, serials_from_rises entries h.1)

pairs-cons : (entry : Entry) (entries : List Entry) → AllByRecursion (λ e. entry.serial < e.serial) entries → AllPairs (λ x y. x.serial < y.serial) entries
    → (i j : ℕ) (d : Entry) → i < j → j < length (entry ∷ entries) → (get_or (entry ∷ entries) i d).serial < (get_or (entry ∷ entries) j d).serial
pairs-cons entry entries h k i zero d lt long = absurd (omega arith)
pairs-cons entry entries h k zero (suc j) d lt long = All-from_recursion (λ e. entry.serial < e.serial) entries h j d (omega arith)
pairs-cons entry entries h k (suc i) (suc j) d lt long = k i j d (omega arith) (omega arith)

pub pairs_from_rises : (entries : List Entry) → Rises entries → AllPairs (λ x y. x.serial < y.serial) entries
pairs_from_rises [] h = λ i j d lt long. absurd (omega arith)
pairs_from_rises (entry ∷ entries) h = grind (arith, pairs-cons, all_weaker, pairs_from_rises entries h.1)

-- ---- and back

both_follow : (entry : Entry) (entries : List Entry) → AllByRecursion (λ e. entry.serial < e.serial) entries
    → AllByRecursion (λ e. place entry ≤ place e) entries → RisesFrom entry entries
both_follow entry [] h k = tt
both_follow entry (first ∷ entries) h k = ((h.0, k.0), both_follow entry entries h.1 k.1)

at_entry : (before after : List Entry) (first entry : Entry) → RisesFrom first (before ++ entry ∷ after) → Follows first entry
at_entry [] after first entry h = h.0
at_entry (other ∷ before) after first entry h = at_entry before after first entry h.1

pub rises_from_pairs : (entries : List Entry) → AllPairs (λ x y. x.serial < y.serial) entries → IsInOrder place entries → Rises entries
rises_from_pairs [] h k = tt
rises_from_pairs (entry ∷ entries) h k = (
  both_follow entry entries (pairs-head (λ x y. x.serial < y.serial) entry entries h) k.0,
  rises_from_pairs entries (pairs-tail (λ x y. x.serial < y.serial) entry entries h) k.1,
)

last_follows : (found : Option Entry) (before after : List Entry) (entry : Entry) → IfSome found (λ p. Follows p entry) → Rises (before ++ entry ∷ after)
    → IfSome (last_entry found before) (λ p. Follows p entry)
last_follows found [] after entry h k = h
last_follows found (first ∷ before) after entry h k = last_follows (Some first) before after entry (at_entry before after first entry k.0) k.1

unbroken : (previous : Option Entry) (entry : Entry) → IfSome previous (λ p. Follows p entry) → breaks_order previous entry ≡ false
unbroken None entry h = refl
unbroken (Some p) entry h = from_follows p entry h

from_rises : (before entries : List Entry) → ((e : Entry) → Rises (filter (is_of_node e.node) (before ++ entries))) → NoneFail is_out_of_order before entries
from_rises before [] h = tt
from_rises before (entry ∷ entries) h =
    let p = is_of_node entry.node in
    let own : filter p (before ++ entry ∷ entries) ≡ filter p before ++ entry ∷ filter p entries =
    filter-append p before (entry ∷ entries) ∙ ap (λ es. filter p before ++ es) (filter_yes p entry entries (eq-eqb entry.node entry.node refl)) in (
      unbroken (last_entry None (filter p before)) entry (last_follows None (filter p before) (filter p entries) entry tt (subst Rises own (h entry))),
      from_rises (before ++ entry ∷ []) entries
          (λ e. subst (λ (es : List Entry). Rises (filter (is_of_node e.node) es)) (sym (append_assoc before (entry ∷ []) entries)) (h e)),
    )

pub ordered_from_rises : (entries : List Entry) → ((node : ℕ) → Rises (filter (is_of_node node) entries)) → first_disordered entries ≡ None
ordered_from_rises entries h = from_none_fail is_out_of_order [] entries (from_rises [] entries (λ e. h e.node))
