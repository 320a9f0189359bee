-- Placed entries stand by version, and each maker before the loads at its version.
use Rattle.std.proofs.Common.{◌≡◌, ℕ, zero, suc, ◌+◌, ◌<◌, ◌≤◌, List, ◌++◌, arith}
use Rattle.std.proofs.lemmas.Bool.{and_parts, eqb-true, not-true}
use Rattle.std.specs.List.{filter, AllByRecursion}
use Rattle.sci_history.specs.{declared.entry.Entry.{Entry}, Placed.{makes, reads, by_node_and_serial, by_version}}
use Rattle.sci_history.proofs.Order.{IsInOrder, IsInOrder-same, all_weaker, all-append, all-passes}
use Rattle.sci_history.proofs.{Placement.{place, all-by_node_and_serial}, LawLemmas.{IsInOrder-append}}

abbrev makers_at : ℕ → List Entry → List Entry
makers_at version entries = by_node_and_serial (filter (makes version) entries)

abbrev loads_at : ℕ → List Entry → List Entry
loads_at version entries = by_node_and_serial (filter (reads version) entries)

maker_places : (version : ℕ) (entries : List Entry) → AllByRecursion (λ e. place e ≡ version + version) (makers_at version entries)
maker_places version entries = grind (arith, all-by_node_and_serial, place, all_weaker, and_parts, eqb-true, all-passes)

load_places : (version : ℕ) (entries : List Entry) → AllByRecursion (λ e. place e ≡ version + version + 1) (loads_at version entries)
load_places version entries = grind (arith, all-by_node_and_serial, place, all_weaker, and_parts, not-true, eqb-true, all-passes)

places_below : (bound : ℕ) (entries : List Entry) → AllByRecursion (λ e. place e < bound + bound) (by_version bound entries)
unfolding by_version
places_below zero entries = tt
places_below (suc version) entries =
    let P : Entry → Type 0 = λ e. place e < suc version + suc version in
    all-append P (by_version version entries) (makers_at version entries ++ loads_at version entries)
    (all_weaker (λ e. place e < version + version) P (λ e lt. omega arith) (by_version version entries) (places_below version entries))
    (all-append P (makers_at version entries) (loads_at version entries)
    (all_weaker (λ e. place e ≡ version + version) P (λ e is. omega arith) (makers_at version entries) (maker_places version entries))
    (all_weaker (λ e. place e ≡ version + version + 1) P (λ e is. omega arith) (loads_at version entries) (load_places version entries)))

group_in_order : (version : ℕ) (entries : List Entry) → IsInOrder place (makers_at version entries ++ loads_at version entries)
group_in_order version entries =
    IsInOrder-append place (version + version + 1) (makers_at version entries) (loads_at version entries)
    (IsInOrder-same place (version + version) (makers_at version entries) (maker_places version entries))
    (IsInOrder-same place (version + version + 1) (loads_at version entries) (load_places version entries))
    (all_weaker (λ e. place e ≡ version + version) (λ e. place e < version + version + 1) (λ e is. omega arith) (makers_at version entries)
    (maker_places version entries))
    (all_weaker (λ e. place e ≡ version + version + 1) (λ e. version + version + 1 ≤ place e) (λ e is. omega arith) (loads_at version entries)
    (load_places version entries))

pub placed_in_order : (bound : ℕ) (entries : List Entry) → IsInOrder place (by_version bound entries)
unfolding by_version
placed_in_order zero entries = tt
placed_in_order (suc version) entries =
    IsInOrder-append place (version + version) (by_version version entries) (makers_at version entries ++ loads_at version entries)
    (placed_in_order version entries) (group_in_order version entries) (places_below version entries)
    (all-append (λ e. version + version ≤ place e) (makers_at version entries) (loads_at version entries)
    (all_weaker (λ e. place e ≡ version + version) (λ e. version + version ≤ place e) (λ e is. omega arith) (makers_at version entries)
    (maker_places version entries))
    (all_weaker (λ e. place e ≡ version + version + 1) (λ e. version + version ≤ place e) (λ e is. omega arith) (loads_at version entries)
    (load_places version entries)))
