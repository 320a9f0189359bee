-- Runs over one line: put together, taken apart, and those that placed entries are.
use Rattle.std.proofs.Common.{◌≡◌, ℕ, zero, suc, ◌<◌, ◌≤◌, true, List, [], ◌∷◌, ◌++◌, map, refl, sym, ◌∙◌, subst, arith}
use Rattle.std.proofs.lemmas.{Bool.{and_parts, eqb-true, not-true}, List.{map-append}}
use Rattle.std.specs.List.{filter, AllByRecursion}
use Rattle.sci_words.specs.declared.{limits.TheConstants.{MAX_NODES}, operation.{Op.{Op}, Reply.{Reply}}}
use Rattle.sci_words.specs.Stamped.{line_after}
use Rattle.sci_history.specs.{declared.entry.Entry.{Entry}, Memory.{IsLineRun}}
use Rattle.sci_history.specs.Placed.{makes, reads, pair_of, by_node_and_serial, by_version}
use Rattle.sci_history.proofs.Order.{all_both, all-filter, all-passes}
use Rattle.sci_history.proofs.Placement.{all-by_node_and_serial, by_node_and_serial-one, by_node_and_serial-none}
use Rattle.sci_history.proofs.Histories.{Agrees, line_after-load}

pub line_run-append : (xs ys : List (Op × Reply)) (old mid new : List ℕ) → IsLineRun xs old mid → IsLineRun ys mid new → IsLineRun (xs ++ ys) old new
line_run-append [] ys old mid new first then' = subst (λ (words : List ℕ). IsLineRun ys words new) first then'
line_run-append (x ∷ xs) ys old mid new first then' =
    (first.0, line_run-append xs ys (line_after old x.0) mid new first.1 then')

-- a run of operations has one end
pub line_run-end : (xs : List (Op × Reply)) (old new other : List ℕ) → IsLineRun xs old new → IsLineRun xs old other → new ≡ other
line_run-end [] old new other h k = h ∙ sym k
line_run-end (x ∷ xs) old new other h k = line_run-end xs (line_after old x.0) new other h.1 k.1

-- loads at one version leave the line
loads_run : (words : ℕ → List ℕ) (version : ℕ) (entries : List Entry) → AllByRecursion (λ e. Agrees words e × (reads version e ≡ true)) entries
    → IsLineRun (map pair_of entries) (words version) (words version)
loads_run words version [] h = refl
loads_run words version (entry ∷ entries) h = grind (arith, and_parts, not-true, eqb-true, line_after-load, loads_run words version entries h.1)

-- Entries that agree with the words at each version, with one maker of each version up to a count.
pub record Explains (words : ℕ → List ℕ) (count : ℕ) (entries : List Entry) : Type 0 where
  pub agree : AllByRecursion (Agrees words) entries
  pub nodes : AllByRecursion (λ entry. entry.node < MAX_NODES) entries
  pub none : filter (makes 0) entries ≡ []
  pub one : (version : ℕ) → version < count → (maker : Entry) × (filter (makes (suc version)) entries ≡ maker ∷ [])

group_of : (words : ℕ → List ℕ) (count version : ℕ) (entries : List Entry) → Explains words count entries
    → IsLineRun (map pair_of (by_node_and_serial (filter (reads version) entries))) (words version) (words version)
group_of words count version entries h =
    let own = filter (reads version) entries in
    loads_run words version (by_node_and_serial own)
    (all-by_node_and_serial (λ e. Agrees words e × (reads version e ≡ true)) own
    (all_both (Agrees words) (λ e. reads version e ≡ true) own (all-filter (Agrees words) (reads version) entries h.agree)
    (all-passes (reads version) entries)))

maker_run : (words : ℕ → List ℕ) (version : ℕ) (entries : List Entry) (maker : Entry) → AllByRecursion (Agrees words) entries
    → AllByRecursion (λ entry. entry.node < MAX_NODES) entries → filter (makes (suc version)) entries ≡ maker ∷ []
    → IsLineRun (map pair_of (by_node_and_serial (filter (makes (suc version)) entries))) (words version) (words (suc version))
maker_run words version entries maker agree nodes is = grind (arith, all-filter, all-passes, and_parts, eqb-true, by_node_and_serial-one)

pub versions_run : (words : ℕ → List ℕ) (count version : ℕ) (entries : List Entry) → Explains words count entries → version ≤ count
    → IsLineRun (map pair_of (by_version (suc version) entries)) (words 0) (words version)
unfolding by_version
versions_run words count zero entries h le =
    let loads = group_of words count 0 entries h in
    rw (h.none, by_node_and_serial-none) loads
versions_run words count (suc version) entries h le =
    let before = by_version (suc version) entries in
    let makers = by_node_and_serial (filter (makes (suc version)) entries) in
    let loads = by_node_and_serial (filter (reads (suc version)) entries) in
    let one = h.one version (omega arith) in
    let group : IsLineRun (map pair_of makers ++ map pair_of loads) (words version) (words (suc version)) =
    line_run-append (map pair_of makers) (map pair_of loads) (words version) (words (suc version)) (words (suc version))
    (maker_run words version entries one.0 h.agree h.nodes one.1) (group_of words count (suc version) entries h) in
    let whole : IsLineRun (map pair_of before ++ (map pair_of makers ++ map pair_of loads)) (words 0) (words (suc version)) =
    line_run-append (map pair_of before) (map pair_of makers ++ map pair_of loads) (words 0) (words version) (words (suc version))
    (versions_run words count version entries h (omega arith)) group in
    rw (map-append pair_of before (makers ++ loads), map-append pair_of makers loads) whole
