-- Entries that differ in their words alone: what an audit finds of their versions, serials and places is the same.
use Rattle.std.proofs.Common.{◌≡◌, ℕ, zero, suc, ◌+◌, Bool, List, [], ◌∷◌, ◌++◌, length, map, max, Option, Some, None, refl, sym, ap, ◌∙◌, inl, inr}
use Rattle.std.proofs.lemmas.{Bool.{cases_Bool}, List.{length-map, map-append, Sums.{length-filter}}}
use Rattle.std.specs.{Prelude.{option_map}, List.{filter, list_any}}
use Rattle.sci_words.specs.declared.{limits.TheConstants.{MAX_NODES}}
use Rattle.sci_history.specs.{declared.entry.Entry.{Entry}}
use Rattle.sci_history.specs.Audit.{Names, breaks_order, first_disordered, first_failing, first_missing, first_twice, is_out_of_order, is_version_missing}
use Rattle.sci_history.specs.Audit.{is_version_twice, last_entry}
use Rattle.sci_history.specs.Placed.{above_serials, by_node_and_serial, by_version, in_order, in_serial_order, is_making, is_of_node, maker_count, makes}
use Rattle.sci_history.specs.Placed.{placed_entries, reads}
use Rattle.sci_history.proofs.Sorting.{map-in_order}
use Rattle.sci_windows.specs.Relative.{relative_op, relative_reply}
use Rattle.sci_windows.proofs.{Merges.{filter-mapped}, Swaps.{relative_maker}}
use Rattle.std.proofs.Math.ListN.{get_or}

-- the entry with its words relative to the first ones
abbrev pub over : List ℕ → Entry → Entry
over words entry = record entry {
  op = relative_op (get_or words entry.op.word 0) entry.op entry.reply;
  reply = relative_reply (get_or words entry.op.word 0) entry.reply;
}

pub making_over : (words : List ℕ) (entry : Entry) → is_making (over words entry) ≡ is_making entry
making_over words entry = relative_maker (get_or words entry.op.word 0) entry.op.act entry.reply

makes_over : (words : List ℕ) (version : ℕ) (entry : Entry) → makes version (over words entry) ≡ makes version entry
makes_over words version entry = rw (making_over words entry) refl

reads_over : (words : List ℕ) (version : ℕ) (entry : Entry) → reads version (over words entry) ≡ reads version entry
reads_over words version entry = rw (making_over words entry) refl

-- ---- in placed order

length-mapped : (f : Entry → Entry) (es : List Entry) → length (map f es) ≡ length es
length-mapped f es = length-map es f

pub count_over : (words : List ℕ) (es : List Entry) → maker_count (map (over words) es) ≡ maker_count es
count_over words es =
    sym (length-filter is_making (map (over words) es)) ∙ ap length (filter-mapped (over words) is_making (making_over words) es)
    ∙ length-mapped (over words) (filter is_making es) ∙ length-filter is_making es

above_over : (words : List ℕ) (es : List Entry) → above_serials (map (over words) es) ≡ above_serials es
above_over words [] = refl
above_over words (e ∷ es) = ap (max (e.serial + 1)) (above_over words es)

in_serial_over : (words : List ℕ) (es : List Entry) → in_serial_order (map (over words) es) ≡ map (over words) (in_serial_order es)
in_serial_over words es =
    ap (λ (bound : ℕ). in_order (λ (e : Entry). e.serial) bound (map (over words) es)) (above_over words es)
    ∙ sym (map-in_order (over words) (λ (e : Entry). e.serial) (above_serials es) es)

by_node_over : (words : List ℕ) (es : List Entry) → by_node_and_serial (map (over words) es) ≡ map (over words) (by_node_and_serial es)
by_node_over words es =
    ap (in_order (λ (e : Entry). e.node) MAX_NODES) (in_serial_over words es)
    ∙ sym (map-in_order (over words) (λ (e : Entry). e.node) MAX_NODES (in_serial_order es))

passed_over : (words : List ℕ) (p : Entry → Bool) (es : List Entry) → ((e : Entry) → p (over words e) ≡ p e)
    → by_node_and_serial (filter p (map (over words) es)) ≡ map (over words) (by_node_and_serial (filter p es))
passed_over words p es keeps = ap by_node_and_serial (filter-mapped (over words) p keeps es) ∙ by_node_over words (filter p es)

by_version_over : (words : List ℕ) (bound : ℕ) (es : List Entry) → by_version bound (map (over words) es) ≡ map (over words) (by_version bound es)
unfolding by_version
by_version_over words zero es = refl
by_version_over words (suc version) es =
    let makers = by_node_and_serial (filter (makes version) es) in
    let loads = by_node_and_serial (filter (reads version) es) in
    rw (
      by_version_over words version es,
      passed_over words (makes version) es (makes_over words version),
      passed_over words (reads version) es (reads_over words version),
    )
    (ap (λ (xs : List Entry). map (over words) (by_version version es) ++ xs) (sym (map-append (over words) makers loads))
    ∙ sym (map-append (over words) (by_version version es) (makers ++ loads)))

pub placed_over : (words : List ℕ) (es : List Entry) → placed_entries (map (over words) es) ≡ map (over words) (placed_entries es)
placed_over words es =
    ap (λ (count : ℕ). by_version (suc count) (map (over words) es)) (count_over words es) ∙ by_version_over words (suc (maker_count es)) es

-- ---- the first that fails

pub first_over : (words : List ℕ) (fails other : List Entry → Entry → Bool)
    → ((before : List Entry) (e : Entry) → fails (map (over words) before) (over words e) ≡ other before e)
    → (before es : List Entry) → first_failing fails (map (over words) before) (map (over words) es) ≡ option_map (over words) (first_failing other before es)
first_over words fails other same before [] = refl
first_over words fails other same before (e ∷ es) =
    let next : first_failing fails (map (over words) before ++ over words e ∷ []) (map (over words) es)
    ≡ option_map (over words) (first_failing other (before ++ e ∷ []) es) =
    ap (λ (xs : List Entry). first_failing fails xs (map (over words) es)) (sym (map-append (over words) before (e ∷ [])))
    ∙ first_over words fails other same (before ++ e ∷ []) es in
    elim (cases_Bool (other before e)) [
      | inl fails_ ↦ rw (same before e, fails_) refl
      | inr passes ↦ rw (same before e, passes) next
    ]

any_over : (words : List ℕ) (version : ℕ) (es : List Entry) → list_any (makes version) (map (over words) es) ≡ list_any (makes version) es
any_over words version [] = refl
any_over words version (e ∷ es) = rw (makes_over words version e, any_over words version es) refl

twice_test : (words : List ℕ) (before : List Entry) (e : Entry) → is_version_twice (map (over words) before) (over words e) ≡ is_version_twice before e
twice_test words before e = rw (making_over words e, any_over words e.version before) refl

pub twice_over : (words : List ℕ) (es : List Entry) → first_twice (map (over words) es) ≡ option_map (over words) (first_twice es)
twice_over words es = first_over words is_version_twice is_version_twice (twice_test words) [] es

missing_test : (words : List ℕ) (count : ℕ) (before : List Entry) (e : Entry)
    → is_version_missing count (map (over words) before) (over words e) ≡ is_version_missing count before e
missing_test words count before e = rw (making_over words e) refl

pub missing_over : (words : List ℕ) (es : List Entry) → first_missing (map (over words) es) ≡ option_map (over words) (first_missing es)
missing_over words es =
    ap (λ (count : ℕ). first_failing (is_version_missing count) [] (map (over words) es)) (count_over words es)
    ∙ first_over words (is_version_missing (maker_count es)) (is_version_missing (maker_count es)) (missing_test words (maker_count es)) [] es

last_over : (words : List ℕ) (found : Option Entry) (es : List Entry)
    → last_entry (option_map (over words) found) (map (over words) es) ≡ option_map (over words) (last_entry found es)
last_over words found [] = refl
last_over words found (e ∷ es) = last_over words (Some e) es

breaks_over : (words : List ℕ) (previous : Option Entry) (e : Entry)
    → breaks_order (option_map (over words) previous) (over words e) ≡ breaks_order previous e
breaks_over words None e = refl
breaks_over words (Some p) e = rw (making_over words p, making_over words e) refl

order_test : (words : List ℕ) (before : List Entry) (e : Entry) → is_out_of_order (map (over words) before) (over words e) ≡ is_out_of_order before e
order_test words before e =
    ap (λ (xs : List Entry). breaks_order (last_entry None xs) (over words e)) (filter-mapped (over words) (is_of_node e.node) (λ x. refl) before)
    ∙ ap (λ (p : Option Entry). breaks_order p (over words e)) (last_over words None (filter (is_of_node e.node) before))
    ∙ breaks_over words (last_entry None (filter (is_of_node e.node) before)) e

pub disordered_over : (words : List ℕ) (es : List Entry) → first_disordered (map (over words) es) ≡ option_map (over words) (first_disordered es)
disordered_over words es = first_over words is_out_of_order is_out_of_order (order_test words) [] es

-- ---- what is named

pub names_over : (words : List ℕ) (found : Option Entry) (named : Option (ℕ × ℕ)) → Names (option_map (over words) found) named → Names found named
names_over words None named h = h
names_over words (Some e) named h = h

pub none_over : (words : List ℕ) (found : Option Entry) → option_map (over words) found ≡ None → found ≡ None
none_over words None e = refl
none_over words (Some x) e = absurd cc
