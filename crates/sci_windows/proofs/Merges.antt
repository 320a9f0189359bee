-- Entries in one order that a map gives, taken back through the map node by node.
use Rattle.std.proofs.Common.{◌≡◌, ℕ, ◌<◌, Bool, cond, eqb, List, [], ◌∷◌, map, refl, sym, ap, ◌∙◌, inl, inr, arith}
use Rattle.std.proofs.lemmas.Bool.{cases_Bool, cases_eq, eq-eqb, ne_eqb}
use Rattle.std.specs.List.{filter, AllByRecursion}
use Rattle.sci_words.specs.declared.limits.TheConstants.{MAX_NODES}
use Rattle.sci_history.specs.{declared.entry.Entry.{Entry}, Placed.{is_of_node}}
use Rattle.sci_history.proofs.Order.{filter_yes, filter_no}

-- a test that a map keeps
pub filter-mapped : (f : Entry → Entry) (p : Entry → Bool) → ((e : Entry) → p (f e) ≡ p e) → (es : List Entry) → filter p (map f es) ≡ map f (filter p es)
filter-mapped f p keeps [] = refl
filter-mapped f p keeps (e ∷ es) = elim (cases_Bool (p e)) [
  | inl yes_ ↦
      filter_yes p (f e) (map f es) (keeps e ∙ yes_) ∙ ap (λ (xs : List Entry). f e ∷ xs) (filter-mapped f p keeps es)
      ∙ sym (ap (map f) (filter_yes p e es yes_))
  | inr no_ ↦ filter_no p (f e) (map f es) (keeps e ∙ no_) ∙ filter-mapped f p keeps es ∙ sym (ap (map f) (filter_no p e es no_))
]

-- entries that the map takes to these, and whose nodes have these logs
pub record IsPreimage (f : Entry → Entry) (ys : List Entry) (log : ℕ → List Entry) : Type 0 where
  pub entries : List Entry
  pub same : map f entries ≡ ys
  pub own : (node : ℕ) → node < MAX_NODES → log node ≡ filter (is_of_node node) entries

-- the logs with another one for a node
abbrev with_log : (ℕ → List Entry) → ℕ → List Entry → ℕ → List Entry
with_log log m rest node = cond (eqb node m) rest (log node)

nothing_mapped : (f : Entry → Entry) (xs : List Entry) → map f xs ≡ [] → xs ≡ []
nothing_mapped f [] e = refl
nothing_mapped f (x ∷ xs) e = absurd cc

-- the first entry of a log that the map takes to one
record IsFirst (f : Entry → Entry) (y : Entry) (ys xs : List Entry) : Type 0 where
  entry : Entry
  rest : List Entry
  whole : xs ≡ entry ∷ rest
  same : f entry ≡ y
  others : map f rest ≡ ys

first_of_log : (f : Entry → Entry) (y : Entry) (ys xs : List Entry) → map f xs ≡ y ∷ ys → IsFirst f y ys xs
first_of_log f y ys [] e = absurd cc
first_of_log f y ys (x ∷ xs) e = record { entry = x; rest = xs; whole = refl; same = cc; others = cc }

-- what is left of a node's log
left_of : (f : Entry → Entry) (m : ℕ) (y : Entry) (ys mine rest : List Entry) (node : ℕ) → map f mine ≡ filter (is_of_node node) (y ∷ ys)
    → map f rest ≡ filter (is_of_node m) ys → m ≡ y.node → map f (cond (eqb node m) rest mine) ≡ filter (is_of_node node) ys
left_of f m y ys mine rest node own others is = grind (arith, cases_eq, eq-eqb, ne_eqb, filter_no)

own_of : (m : ℕ) (x : Entry) (es mine rest : List Entry) (node : ℕ) → x.node ≡ m → (node ≡ m → mine ≡ x ∷ rest)
    → cond (eqb node m) rest mine ≡ filter (is_of_node node) es → mine ≡ filter (is_of_node node) (x ∷ es)
own_of m x es mine rest node of_node whole own = grind (arith, cases_eq, eq-eqb, filter_yes, ne_eqb, filter_no)

pub preimage : (f : Entry → Entry) → ((e : Entry) → (f e).node ≡ e.node) → (ys : List Entry) (log : ℕ → List Entry)
    → AllByRecursion (λ y. y.node < MAX_NODES) ys → ((node : ℕ) → node < MAX_NODES → map f (log node) ≡ filter (is_of_node node) ys) → IsPreimage f ys log
preimage f keeps [] log nodes own = record { entries = []; same = refl; own = λ node lt. nothing_mapped f (log node) (own node lt) }
preimage f keeps (y ∷ ys) log nodes own =
    let m = y.node in
    let mine : map f (log m) ≡ y ∷ filter (is_of_node m) ys = own m nodes.0 ∙ filter_yes (is_of_node m) y ys (eq-eqb m m refl) in
    let x = first_of_log f y (filter (is_of_node m) ys) (log m) mine in
    let of_node : x.entry.node ≡ m = sym (keeps x.entry) ∙ ap (λ (e : Entry). e.node) x.same in
    let less = with_log log m x.rest in
    let left : (node : ℕ) → node < MAX_NODES → map f (less node) ≡ filter (is_of_node node) ys =
    λ node lt. left_of f m y ys (log node) x.rest node (own node lt) x.others refl in
    let more = preimage f keeps ys less nodes.1 left in
    record {
      entries = x.entry ∷ more.entries;
      same = ap (λ (e : Entry). e ∷ map f more.entries) x.same ∙ ap (λ (es : List Entry). y ∷ es) more.same;
      own = λ node lt. own_of m x.entry more.entries (log node) x.rest node of_node
          (λ here. ap log here ∙ x.whole) (more.own node lt);
    }
