-- Entries one after another, and what a map makes of them.
use Rattle.std.proofs.Common.{◌≡◌, ℕ, suc, ◌+◌, ◌*◌, ◌<◌, ◌≤◌, true, List, [], ◌∷◌, ◌++◌, length, map, get_or, refl, sym, ap, subst, ◌∙◌, arith, inl, inr}
use Rattle.std.proofs.lemmas.Bool.{cases_Bool, eq-eqb, eqb-true}
use Rattle.std.proofs.lemmas.List.{length-append, Elements.{All-from_recursion}, Kept.{AllPairs-cons}}
use Rattle.std.specs.{Prelude.{AllPairs}, List.{filter, AllByRecursion, flat_map}}
use Rattle.sci_words.specs.declared.limits.TheConstants.{MAX_NODES}
use Rattle.sci_history.specs.{declared.entry.Entry.{Entry}, Placed.{is_of_node}}
use Rattle.sci_history.proofs.{Order.{filter_yes, filter_no, all-append, all-passes, all_weaker}, Placement.{pairs-head, pairs-tail}}
use Rattle.sci_windows.specs.Window.{counted_on}

abbrev pub Rises : List Entry → Type 0
Rises es = AllPairs (λ (x y : Entry). x.serial < y.serial) es

pub rises_cons : (x : Entry) (xs : List Entry) → AllByRecursion (λ (y : Entry). x.serial < y.serial) xs → Rises xs → Rises (x ∷ xs)
rises_cons x xs above rest =
    AllPairs-cons (λ (x y : Entry). x.serial < y.serial) x xs (All-from_recursion (λ (y : Entry). x.serial < y.serial) xs above) rest

pub no_rises : Rises []
no_rises i j d lt below = absurd (omega arith)

-- a map of which each serial follows from the one before
pub all_mapped : (f : Entry → Entry) (P Q : Entry → Type 0) → ((e : Entry) → P e → Q (f e)) → (es : List Entry) → AllByRecursion P es
    → AllByRecursion Q (map f es)
all_mapped f P Q leads [] h = tt
all_mapped f P Q leads (e ∷ es) h = (leads e h.0, all_mapped f P Q leads es h.1)

pub all_from_mapped : (f : Entry → Entry) (P Q : Entry → Type 0) → ((e : Entry) → Q (f e) → P e) → (es : List Entry) → AllByRecursion Q (map f es)
    → AllByRecursion P es
all_from_mapped f P Q leads [] h = tt
all_from_mapped f P Q leads (e ∷ es) h = (leads e h.0, all_from_mapped f P Q leads es h.1)

pub rises_mapped : (f : Entry → Entry) → ((e : Entry) → (f e).serial ≡ e.serial) → (es : List Entry) → Rises es → Rises (map f es)
rises_mapped f keeps [] h = no_rises
rises_mapped f keeps (e ∷ es) h =
    rises_cons (f e) (map f es)
    (all_mapped f (λ y. e.serial < y.serial) (λ y. (f e).serial < y.serial)
    (λ y lt. let here = keeps e in let there = keeps y in omega arith) es (pairs-head (λ (x y : Entry). x.serial < y.serial) e es h))
    (rises_mapped f keeps es (pairs-tail (λ (x y : Entry). x.serial < y.serial) e es h))

pub rises_from_mapped : (f : Entry → Entry) → ((e : Entry) → (f e).serial ≡ e.serial) → (es : List Entry) → Rises (map f es) → Rises es
rises_from_mapped f keeps [] h = no_rises
rises_from_mapped f keeps (e ∷ es) h =
    rises_cons e es
    (all_from_mapped f (λ y. e.serial < y.serial) (λ y. (f e).serial < y.serial)
    (λ y lt. let here = keeps e in let there = keeps y in omega arith) es (pairs-head (λ (x y : Entry). x.serial < y.serial) (f e) (map f es) h))
    (rises_from_mapped f keeps es (pairs-tail (λ (x y : Entry). x.serial < y.serial) (f e) (map f es) h))

-- serials that rise in two lists, of which the one stands below the other
pub rises_append : (xs ys : List Entry) → Rises xs → Rises ys → AllByRecursion (λ (x : Entry). AllByRecursion (λ (y : Entry). x.serial < y.serial) ys) xs
    → Rises (xs ++ ys)
rises_append [] ys h k below = k
rises_append (x ∷ xs) ys h k below =
    rises_cons x (xs ++ ys)
    (all-append (λ (y : Entry). x.serial < y.serial) xs ys (pairs-head (λ (x y : Entry). x.serial < y.serial) x xs h) below.0)
    (rises_append xs ys (pairs-tail (λ (x y : Entry). x.serial < y.serial) x xs h) k below.1)

-- what holds of each node's entries holds of all
pub all_by_nodes : (P : Entry → Type 0) (es : List Entry) → AllByRecursion (λ e. e.node < MAX_NODES) es
    → ((node : ℕ) → node < MAX_NODES → AllByRecursion P (filter (is_of_node node) es)) → AllByRecursion P es
all_by_nodes P [] nodes each = tt
all_by_nodes P (e ∷ es) nodes each =
    let mine : AllByRecursion P (e ∷ filter (is_of_node e.node) es) =
    subst (AllByRecursion P) (filter_yes (is_of_node e.node) e es (eq-eqb e.node e.node refl)) (each e.node nodes.0) in (
      mine.0,
      all_by_nodes P es nodes.1 (λ node lt. elim (cases_Bool (is_of_node node e)) [
        | inl yes_ ↦
            let all : AllByRecursion P (e ∷ filter (is_of_node node) es) =
            subst (AllByRecursion P) (filter_yes (is_of_node node) e es yes_) (each node lt) in
            all.1
        | inr no_ ↦ subst (AllByRecursion P) (filter_no (is_of_node node) e es no_) (each node lt)
      ]),
    )

pub map_agrees : (f g : Entry → Entry) (es : List Entry) → AllByRecursion (λ e. f e ≡ g e) es → map f es ≡ map g es
map_agrees f g [] h = refl
map_agrees f g (e ∷ es) h = ap (λ (x : Entry). x ∷ map f es) h.0 ∙ ap (λ (xs : List Entry). g e ∷ xs) (map_agrees f g es h.1)

-- all entries of logs, each of which has no more than some number
pub few_in_all : (logs : List (List Entry)) → ((node : ℕ) → length (get_or logs node []) ≤ 4294967296)
    → length (flat_map (λ (log : List Entry). log) logs) ≤ length logs * 4294967296
few_in_all [] few = omega arith
few_in_all (log ∷ logs) few =
    let here = few 0 in
    let rest = few_in_all logs (λ node. few (suc node)) in
    let both = length-append log (flat_map (λ (log : List Entry). log) logs) in
    omega arith

-- one node's serials rise when they are counted on
mapped_above : (counts : ℕ → ℕ) (node serial : ℕ) (es : List Entry) → AllByRecursion (λ (y : Entry). y.node ≡ node) es
    → AllByRecursion (λ (y : Entry). serial < y.serial) es → AllByRecursion (λ (y : Entry). counts node + serial < y.serial) (map (counted_on counts) es)
mapped_above counts node serial [] nodes h = tt
mapped_above counts node serial (e ∷ es) nodes h =
    let same : counts e.node ≡ counts node = ap counts nodes.0 in
    let lt = h.0 in
    (omega arith, mapped_above counts node serial es nodes.1 h.1)

rises_of_node : (counts : ℕ → ℕ) (node : ℕ) (es : List Entry) → AllByRecursion (λ (y : Entry). y.node ≡ node) es → Rises es
    → Rises (map (counted_on counts) es)
rises_of_node counts node [] nodes h = no_rises
rises_of_node counts node (e ∷ es) nodes h =
    rises_cons (counted_on counts e) (map (counted_on counts) es)
    (subst (λ (k : ℕ). AllByRecursion (λ (y : Entry). counts k + e.serial < y.serial) (map (counted_on counts) es)) (sym nodes.0)
    (mapped_above counts node e.serial es nodes.1 (pairs-head (λ (x y : Entry). x.serial < y.serial) e es h)))
    (rises_of_node counts node es nodes.1 (pairs-tail (λ (x y : Entry). x.serial < y.serial) e es h))

pub rises_counted : (counts : ℕ → ℕ) (node : ℕ) (es : List Entry) → Rises (filter (is_of_node node) es)
    → Rises (map (counted_on counts) (filter (is_of_node node) es))
rises_counted counts node es h =
    rises_of_node counts node (filter (is_of_node node) es)
    (all_weaker (λ (e : Entry). is_of_node node e ≡ true) (λ (e : Entry). e.node ≡ node) (λ e is. eqb-true e.node node is) (filter (is_of_node node) es)
    (all-passes (is_of_node node) es)) h
