-- What stands where among placed entries.
use Rattle.std.proofs.Common.{◌≡◌, ℕ, zero, suc, ◌+◌, ◌<◌, ◌≤◌, Bool, true, cond, eqb, List, [], ◌∷◌, ◌++◌, length, take, refl, sym, ap, ◌∙◌, append_assoc}
use Rattle.std.proofs.{Common.{arith}, lemmas.Bool.{cases_Bool, cases_eq, eq-eqb, ne_eqb, eqb-true}}
use Rattle.std.proofs.lemmas.List.{append-nil, take_all, Concat.{flat_map-append}}
use Rattle.std.proofs.{lemmas.List.Elements.{filter-append, filter_agree, recursion_from_All}, Math.Seq.{take-suc}}
use Rattle.std.specs.{Prelude.{AllPairs}, List.{filter, flat_map, AllByRecursion}}
use Rattle.sci_words.specs.declared.limits.TheConstants.{MAX_NODES}
use Rattle.sci_history.specs.declared.entry.Entry.{Entry}
use Rattle.sci_history.specs.Placed.{log_of, is_of_node, is_on_line, is_making, makes, reads, on_line, in_order, above_serials, by_node_and_serial}
use Rattle.sci_history.specs.Placed.{by_version}
use Rattle.sci_history.proofs.Sorting.{in_order-bound}
use Rattle.sci_history.proofs.Order.{IsInOrder, HasKeysBelow, filter-filter, filter-in_order, in_order-ordered, in_order_same_key, IsInOrder-filter}
use Rattle.sci_history.proofs.Order.{all-filter, all-passes, all_weaker, all-in_order}

-- ---- pairs

pub pairs-head : {X : Type 0} (R : X → X → Type 0) (x : X) (xs : List X) → AllPairs R (x ∷ xs) → AllByRecursion (R x) xs
pairs-head R x xs h = recursion_from_All (R x) xs (λ k d lt. h 0 (suc k) d (omega arith) (omega arith))

pub pairs-tail : {X : Type 0} (R : X → X → Type 0) (x : X) (xs : List X) → AllPairs R (x ∷ xs) → AllPairs R xs
pairs-tail R x xs h = λ i j d lt long. h (suc i) (suc j) d (omega arith) (omega arith)

-- rising serials don't fall
pub in_order_from_rising : {X : Type 0} (key : X → ℕ) (xs : List X) → AllPairs (λ x y. key x < key y) xs → IsInOrder key xs
in_order_from_rising key [] h = tt
in_order_from_rising key (x ∷ xs) h = (
  all_weaker (λ y. key x < key y) (λ y. key x ≤ key y) (λ y lt. omega arith) xs (pairs-head (λ x y. key x < key y) x xs h),
  in_order_from_rising key xs (pairs-tail (λ x y. key x < key y) x xs h),
)

-- ---- the entries of a line, node by node

abbrev same_log : List Entry → List Entry
same_log log = log

on_line-front : (logs : List (List Entry)) (line : ℕ) (entries : List Entry)
    → ((node : ℕ) → node < MAX_NODES → filter (is_on_line line) (log_of logs node) ≡ filter (is_of_node node) entries) → (nodes : ℕ) → nodes ≤ length logs
    → nodes ≤ MAX_NODES → filter (is_on_line line) (flat_map same_log (take nodes logs)) ≡ in_order (λ entry. entry.node) nodes entries
unfolding in_order
on_line-front logs line entries logged zero there few = refl
on_line-front logs line entries logged (suc node) there few =
    let p = is_on_line line in
    let joined : flat_map same_log (take (suc node) logs) ≡ flat_map same_log (take node logs) ++ log_of logs node =
    rw (take-suc logs node [] (omega arith), flat_map-append same_log (take node logs) (log_of logs node ∷ []), append-nil (log_of logs node)) refl in
    rw (
      joined,
      filter-append p (flat_map same_log (take node logs)) (log_of logs node),
      on_line-front logs line entries logged node (omega arith) (omega arith),
      logged node (omega arith),
    ) refl

pub on_line-logs : (logs : List (List Entry)) (line : ℕ) (entries : List Entry) → length logs ≡ MAX_NODES
    → ((node : ℕ) → node < MAX_NODES → filter (is_on_line line) (log_of logs node) ≡ filter (is_of_node node) entries)
    → on_line line logs ≡ in_order (λ entry. entry.node) MAX_NODES entries
on_line-logs logs line entries sixteen logged =
    ap (λ (whole : List (List Entry)). filter (is_on_line line) (flat_map same_log whole)) (sym (take_all MAX_NODES logs (omega arith)))
    ∙ on_line-front logs line entries logged MAX_NODES (omega arith) (omega arith)

-- ---- by_node_and_serial

pub above_serials-above : (entries : List Entry) (bound : ℕ) → above_serials entries ≤ bound → HasKeysBelow (λ entry. entry.serial) bound entries
above_serials-above [] bound h = tt
above_serials-above (entry ∷ entries) bound h = (omega arith, above_serials-above entries bound (omega arith))

pub all-by_node_and_serial : (P : Entry → Type 0) (entries : List Entry) → AllByRecursion P entries → AllByRecursion P (by_node_and_serial entries)
all-by_node_and_serial P entries h = grind (arith, all-in_order)

pub by_node_and_serial-one : (entry : Entry) → entry.node < MAX_NODES → by_node_and_serial (entry ∷ []) ≡ entry ∷ []
by_node_and_serial-one entry lt = grind (arith, in_order-ordered, above_serials-above)

pub by_node_and_serial-none : by_node_and_serial [] ≡ []
by_node_and_serial-none = grind (arith, in_order-ordered)

-- the entries of one node stay in order, if their serials don't fall
pub filter-by_node_and_serial : (node : ℕ) (entries : List Entry) → node < MAX_NODES → IsInOrder (λ entry. entry.serial) (filter (is_of_node node) entries)
    → filter (is_of_node node) (by_node_and_serial entries) ≡ filter (is_of_node node) entries
filter-by_node_and_serial node entries lt ordered =
    let own = filter (is_of_node node) entries in
    let bound = above_serials entries in
    let serials : in_order (λ entry. entry.serial) bound own ≡ own =
    in_order-ordered (λ entry. entry.serial) bound own ordered
    (all-filter (λ entry. entry.serial < bound) (is_of_node node) entries (above_serials-above entries bound (omega arith))) in
    let nodes : in_order (λ entry. entry.node) MAX_NODES own ≡ own =
    in_order_same_key (λ entry. entry.node) MAX_NODES node own lt
    (all_weaker (λ entry. is_of_node node entry ≡ true) (λ entry. entry.node ≡ node) (λ entry e. eqb-true entry.node node e) own
    (all-passes (is_of_node node) entries)) in
    filter-in_order (is_of_node node) (λ entry. entry.node) MAX_NODES (in_order (λ entry. entry.serial) bound entries)
    ∙ rw (filter-in_order (is_of_node node) (λ entry. entry.serial) bound entries, serials) nodes

-- ---- by_version

-- where an entry stands: its version's makers, and then its loads
abbrev pub place : Entry → ℕ
place entry = entry.version + entry.version + cond (is_making entry) 0 1

-- the makers and loads of each version, with no order among them
unfoldable by_place : ℕ → List Entry → List Entry
by_place zero entries = []
by_place (suc version) entries = by_place version entries ++ (filter (makes version) entries ++ filter (reads version) entries)

filter-by_version : (node bound : ℕ) (entries : List Entry) → node < MAX_NODES → IsInOrder (λ entry. entry.serial) (filter (is_of_node node) entries)
    → filter (is_of_node node) (by_version bound entries) ≡ by_place bound (filter (is_of_node node) entries)
unfolding by_version by_place
filter-by_version node zero entries lt ordered = refl
filter-by_version node (suc version) entries lt ordered =
    let p = is_of_node node in
    let group : (q : Entry → Bool) → filter p (by_node_and_serial (filter q entries)) ≡ filter q (filter p entries) =
    λ q. filter-by_node_and_serial node (filter q entries) lt
    (rw (filter-filter p q entries) (IsInOrder-filter (λ entry. entry.serial) q (filter p entries) ordered)) ∙ filter-filter p q entries in
    filter-append p (by_version version entries) (by_node_and_serial (filter (makes version) entries) ++ by_node_and_serial (filter (reads version) entries))
    ∙ rw (
      filter-append p (by_node_and_serial (filter (makes version) entries)) (by_node_and_serial (filter (reads version) entries)),
      filter-by_version node version entries lt ordered,
      group (makes version),
      group (reads version),
    ) refl

makes-place : (version : ℕ) (entry : Entry) → makes version entry ≡ eqb (place entry) (version + version)
makes-place version entry = grind (arith, cases_Bool, cases_eq, eq-eqb, ne_eqb)

reads-place : (version : ℕ) (entry : Entry) → reads version entry ≡ eqb (place entry) (suc (version + version))
reads-place version entry = grind (arith, cases_Bool, ne_eqb, cases_eq, eq-eqb)

by_place-in_order : (bound : ℕ) (entries : List Entry) → by_place bound entries ≡ in_order place (bound + bound) entries
unfolding by_place in_order
by_place-in_order zero entries = refl
by_place-in_order (suc version) entries =
    let twice : suc version + suc version ≡ suc (suc (version + version)) = omega arith in
    let before = in_order place (version + version) entries in
    rw (
      twice,
      by_place-in_order version entries,
      filter_agree (makes version) (λ entry. eqb (place entry) (version + version)) (makes-place version) entries,
      filter_agree (reads version) (λ entry. eqb (place entry) (suc (version + version))) (reads-place version) entries,
    )
    (sym (append_assoc before (filter (λ entry. eqb (place entry) (version + version)) entries)
    (filter (λ entry. eqb (place entry) (suc (version + version))) entries)))

pub place-below : (entry : Entry) (bound : ℕ) → entry.version < bound → place entry < bound + bound
place-below entry bound lt = grind (arith, cases_Bool)

-- a node's entries stand in order, if they did so by version and by serial
pub filter-placed : (node version : ℕ) (entries : List Entry) → node < MAX_NODES → IsInOrder (λ entry. entry.serial) (filter (is_of_node node) entries)
    → IsInOrder place (filter (is_of_node node) entries) → AllByRecursion (λ entry. entry.version ≤ version) (filter (is_of_node node) entries)
    → filter (is_of_node node) (by_version (suc version) entries) ≡ filter (is_of_node node) entries
filter-placed node version entries lt serials places below = grind (arith, all_weaker, place-below, filter-by_version, by_place-in_order, in_order-ordered)

-- ---- all entries by place

below_filter : (p : Entry → Bool) (entries : List Entry) → HasKeysBelow (λ entry. entry.serial) (above_serials entries) (filter p entries)
below_filter p entries = all-filter (λ entry. entry.serial < above_serials entries) p entries
    (above_serials-above entries (above_serials entries) (omega arith))

-- a test's entries among those by node and serial
by_node_and_serial-filter : (p : Entry → Bool) (entries : List Entry) → by_node_and_serial (filter p entries) ≡ filter p (by_node_and_serial entries)
by_node_and_serial-filter p entries = grind (arith, filter-in_order, in_order-bound, below_filter, above_serials-above)

by_version-place : (bound : ℕ) (entries : List Entry) → by_version bound entries ≡ by_place bound (by_node_and_serial entries)
unfolding by_version by_place
by_version-place zero entries = refl
by_version-place (suc version) entries =
    grind (
      arith,
      by_node_and_serial-filter,
      by_version-place version entries,
      by_node_and_serial-filter (makes version) entries,
      by_node_and_serial-filter (reads version) entries,
    )

-- placed entries are those by node and serial, by place
pub by_version-in_order : (bound : ℕ) (entries : List Entry) → by_version bound entries ≡ in_order place (bound + bound) (by_node_and_serial entries)
by_version-in_order bound entries = by_version-place bound entries ∙ by_place-in_order bound (by_node_and_serial entries)
