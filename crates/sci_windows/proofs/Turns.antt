-- Entries that are taken from their logs, one after another.
use Rattle.std.proofs.Common.{◌≡◌, ℕ, zero, suc, ◌+◌, ◌<◌, ◌≤◌, Bool, cond, eqb, List, [], ◌∷◌, ◌++◌, length, map, replicate, get_or, set, take, drop}
use Rattle.std.proofs.Common.{refl, sym, ap, ◌∙◌, arith}
use Rattle.std.proofs.lemmas.Bool.{cases_eq, cases_lt, eq-eqb, ne_eqb}
use Rattle.std.proofs.lemmas.List.{append-nil, get_or_past, get_or-set_same, get_or-set_other, length-append, length-set, map-append, take_more}
use Rattle.std.proofs.lemmas.List.{take-append-drop}
use Rattle.std.proofs.lemmas.List.{Elements.{filter-append}, Filters.{length-filter_more}}
use Rattle.std.proofs.Math.Seq.{take-length}
use Rattle.std.specs.{List.{filter}}
use Rattle.sci_words.specs.declared.limits.TheConstants.{MAX_NODES}
use Rattle.sci_history.specs.{declared.entry.Entry.{Entry}, Placed.{AreOwn, is_of_node, log_of}}
use Rattle.sci_history.proofs.{AuditFinds.{no_entry}, Order.{filter_yes, filter_no}}

abbrev pub times : ℕ → List ℕ → ℕ
times node nodes = length (filter (λ (other : ℕ). eqb other node) nodes)

-- one place more
times_yes : (nodes : List ℕ) (i m : ℕ) → i < length nodes → get_or nodes i 0 ≡ m → times m (take (i + 1) nodes) ≡ times m (take i nodes) + 1
times_yes nodes i m lt is =
    length-filter_more (λ (other : ℕ). eqb other m) nodes i 0 lt
    ∙ ap (λ (b : Bool). times m (take i nodes) + cond b 1 0) (eq-eqb (get_or nodes i 0) m is)

times_no : (nodes : List ℕ) (i m : ℕ) → i < length nodes → (get_or nodes i 0 ≡ m → ⊥) → times m (take (i + 1) nodes) ≡ times m (take i nodes)
times_no nodes i m lt other =
    length-filter_more (λ (x : ℕ). eqb x m) nodes i 0 lt
    ∙ ap (λ (b : Bool). times m (take i nodes) + cond b 1 0) (ne_eqb (get_or nodes i 0) m other) ∙ (omega arith)

times_all : (m k : ℕ) (nodes : List ℕ) → times m (take k nodes) ≤ times m nodes
times_all m k nodes =
    let whole : times m (take k nodes) + times m (drop k nodes) ≡ times m nodes =
    sym (length-append (filter (λ (x : ℕ). eqb x m) (take k nodes)) (filter (λ (x : ℕ). eqb x m) (drop k nodes)))
    ∙ ap length (sym (filter-append (λ (x : ℕ). eqb x m) (take k nodes) (drop k nodes))) ∙ ap (times m) (take-append-drop k nodes) in
    omega arith

-- a node stands at a place, so it stands there more often in all than before
pub times_before : (nodes : List ℕ) (i : ℕ) → i < length nodes → times (get_or nodes i 0) (take i nodes) < times (get_or nodes i 0) nodes
times_before nodes i lt =
    let more = times_yes nodes i (get_or nodes i 0) lt refl in
    let all = times_all (get_or nodes i 0) (i + 1) nodes in
    omega arith

-- what is taken so far of each log, and how much
pub record AreTaken (logs : List (List Entry)) (nodes next : List ℕ) (i : ℕ) (made : List Entry) : Type 0 where
  pub sixteen : length next ≡ MAX_NODES
  pub nodes_are : map (λ (e : Entry). e.node) made ≡ take i nodes
  pub own : (node : ℕ) → filter (is_of_node node) made ≡ take (get_or next node 0) (log_of logs node)
  pub count : (node : ℕ) → node < MAX_NODES → get_or next node 0 ≡ times node (take i nodes)

take_next : (xs : List Entry) (i : ℕ) (x : Entry) → i < length xs → x ≡ get_or xs i no_entry → take (i + 1) xs ≡ take i xs ++ x ∷ []
take_next xs i x lt is = take_more xs i no_entry lt ∙ ap (λ (y : Entry). take i xs ++ y ∷ []) (sym is)

own_next : (logs : List (List Entry)) (next : List ℕ) (made : List Entry) (e : Entry) (node m : ℕ) → e.node ≡ node → node < length next
    → get_or next node 0 < length (log_of logs node) → e ≡ get_or (log_of logs node) (get_or next node 0) no_entry
    → ((k : ℕ) → filter (is_of_node k) made ≡ take (get_or next k 0) (log_of logs k))
    → filter (is_of_node m) (made ++ e ∷ []) ≡ take (get_or (set next node (get_or next node 0 + 1)) m 0) (log_of logs m)
own_next logs next made e node m of_node fits there is own = grind (
  arith,
  cases_eq,
  filter-append,
  filter_yes,
  eq-eqb,
  take_next,
  get_or-set_same,
  filter_no,
  ne_eqb,
  append-nil,
  get_or-set_other,
)

count_next : (nodes next : List ℕ) (i m : ℕ) → i < length nodes → get_or nodes i 0 < length next
    → get_or next (get_or nodes i 0) 0 ≡ times (get_or nodes i 0) (take i nodes) → get_or next m 0 ≡ times m (take i nodes)
    → get_or (set next (get_or nodes i 0) (get_or next (get_or nodes i 0) 0 + 1)) m 0 ≡ times m (take (i + 1) nodes)
count_next nodes next i m lt fits mine count = grind (arith, cases_eq, get_or-set_same, times_yes, get_or-set_other, times_no)

pub taken_next : (logs : List (List Entry)) (nodes next : List ℕ) (i : ℕ) (made : List Entry) (e : Entry) → AreOwn logs → i < length nodes
    → get_or nodes i 0 < MAX_NODES → get_or next (get_or nodes i 0) 0 < length (log_of logs (get_or nodes i 0))
    → e ≡ get_or (log_of logs (get_or nodes i 0)) (get_or next (get_or nodes i 0) 0) no_entry → AreTaken logs nodes next i made
    → AreTaken logs nodes (set next (get_or nodes i 0) (get_or next (get_or nodes i 0) 0 + 1)) (i + 1) (made ++ e ∷ [])
taken_next logs nodes next i made e own lt known there is taken = grind (arith, no_entry, length-set, map-append, take_more, own_next, count_next)

-- a node's next place is within its log
pub next_within : (logs : List (List Entry)) (nodes next : List ℕ) (i : ℕ) (made : List Entry) → i < length nodes → get_or nodes i 0 < MAX_NODES
    → ((node : ℕ) → times node nodes ≡ length (log_of logs node)) → AreTaken logs nodes next i made
    → get_or next (get_or nodes i 0) 0 < length (log_of logs (get_or nodes i 0))
next_within logs nodes next i made lt known each taken = grind (arith, times_before)

zeros_at : (count node : ℕ) → get_or {A = ℕ} (replicate count 0) node 0 ≡ 0
zeros_at zero node = refl
zeros_at (suc count) zero = refl
zeros_at (suc count) (suc node) = zeros_at count node

pub taken_none : (logs : List (List Entry)) (nodes : List ℕ) (made : List Entry) → made ≡ [] → AreTaken logs nodes (replicate MAX_NODES 0) 0 made
taken_none logs nodes made none = grind (arith, zeros_at)

nothing_taken : (k : ℕ) → take {A = Entry} k [] ≡ []
nothing_taken zero = refl
nothing_taken (suc k) = refl

-- at the end all is taken
pub all_taken : (logs : List (List Entry)) (nodes next : List ℕ) (i : ℕ) (made : List Entry) → length logs ≡ MAX_NODES → i ≡ length nodes
    → ((node : ℕ) → times node nodes ≡ length (log_of logs node)) → AreTaken logs nodes next i made
    → (node : ℕ) → filter (is_of_node node) made ≡ log_of logs node
all_taken logs nodes next i made sixteen end each taken node = grind (arith, cases_lt, take-length, get_or_past, nothing_taken)
