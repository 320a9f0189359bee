-- What an entry that is left first waits for, and the steps from one to the next.
use Rattle.std.proofs.Common.{◌≡◌, ℕ, zero, suc, ◌+◌, ◌<◌, ◌≤◌, Bool, true, false, eqb, ltb, List, [], ◌∷◌, ◌++◌, length, get_or, drop, Option, Some, None}
use Rattle.std.proofs.{Common.{refl, sym, ap, subst, ◌∙◌, arith, inl, inr}, lemmas.Bool.{cases_lt, eqb-true, ltb-true}}
use Rattle.std.specs.{Prelude.{slice_get, if◌then◌else◌}, List.{AllByRecursion}}
use Rattle.sci_words.specs.declared.limits.TheConstants.{MAX_NODES}
use Rattle.sci_history.specs.declared.{entry.Entry.{Entry}, order_verdict.Reason.{Reason}}
use Rattle.sci_history.specs.declared.order_verdict.Reason.TheVariants.{Logged, ReadsFrom, FromRead, Coherence}
use Rattle.sci_history.specs.{declared.order_verdict.Step.{Step}, Cycle.{ComesAfter, IsChain}}
use Rattle.sci_history.specs.Placed.{AreOwn, log_of, is_making}
use Rattle.sci_history.specs.Placing.{line_reason, rests_of, AreBlocked, IsBlocker, IsFirstLeft, LeadsTo}
use Rattle.sci_history.proofs.{AuditFinds.{no_entry}, Cycles.{got}, Rests.{front_at, rest_at, rest_beyond}}

-- ---- what is left of a log

all_got : (P : Entry → Type 0) (xs : List Entry) → ((k : ℕ) (x : Entry) → slice_get xs k ≡ Some x → P x) → AllByRecursion P xs
all_got P [] each = tt
all_got P (x ∷ xs) each = (each zero x refl, all_got P xs (λ k y at. each (suc k) y at))

all_dropped : (P : Entry → Type 0) (xs : List Entry) (from : ℕ) → ((k : ℕ) (x : Entry) → from ≤ k → slice_get xs k ≡ Some x → P x)
    → AllByRecursion P (drop from xs)
all_dropped P xs zero each = all_got P xs (λ k x at. each k x (omega arith) at)
all_dropped P [] (suc from) each = tt
all_dropped P (x ∷ xs) (suc from) each = all_dropped P xs from (λ k y le at. each (suc k) y (omega arith) at)

-- what holds of each entry from a place on holds of all that are left
pub all_left : (P : Entry → Type 0) (logs : List (List Entry)) (next : List ℕ) (n : ℕ) (log : List Entry) → n < MAX_NODES → log ≡ log_of logs n
    → ((k : ℕ) (x : Entry) → get_or next n 0 ≤ k → slice_get log k ≡ Some x → P x) → AllByRecursion P (log_of (rests_of logs next) n)
all_left P logs next n log lt is each =
    subst (AllByRecursion P) (ap (drop (get_or next n 0)) is ∙ sym (rest_at logs next n lt)) (all_dropped P log (get_or next n 0) each)

pub all_nodes : (P : Entry → Type 0) (logs : List (List Entry)) (next : List ℕ) → ((n : ℕ) → n < MAX_NODES → AllByRecursion P (log_of (rests_of logs next) n))
    → (n : ℕ) → AllByRecursion P (log_of (rests_of logs next) n)
all_nodes P logs next each n = elim (cases_lt n MAX_NODES) [ inl lt ↦ each n lt | inr past ↦ subst (AllByRecursion P) (sym (rest_beyond logs next n past)) tt ]

-- none up to a place, and that one neither
pub none_more : (x : Entry) (log : List Entry) (from place : ℕ) → line_reason x (get_or log place no_entry) ≡ None
    → ((k : ℕ) (other : Entry) → from ≤ k → k < place → slice_get log k ≡ Some other → line_reason x other ≡ None)
    → (k : ℕ) (other : Entry) → from ≤ k → k < place + 1 → slice_get log k ≡ Some other → line_reason x other ≡ None
none_more x log from place here before k other le below at = elim (cases_lt k place) [
  | inl lt ↦ before k other le lt at
  | inr past ↦
      let same : k ≡ place = omega arith in
      let is : get_or log place no_entry ≡ other = ap (λ (j : ℕ). get_or log j no_entry) (sym same) ∙ (got log k other at).1 in
      ap (line_reason x) (sym is) ∙ here
]

-- ---- reasons

abbrev reason_of : (on makes made less same : Bool) → Option Reason
reason_of on makes made less same =
    if on then (if makes then (if less then Some (if made then Coherence else FromRead) else None)
    else (if made then (if same then Some ReadsFrom else None) else None)) else None

comes_by : (x y : Step) (r : Reason) (on makes made less same : Bool) → eqb y.entry.op.line x.entry.op.line ≡ on → is_making x.entry ≡ makes
    → is_making y.entry ≡ made → ltb y.entry.version x.entry.version ≡ less → eqb y.entry.version x.entry.version ≡ same
    → reason_of on makes made less same ≡ Some r → ComesAfter r x y
comes_by x y r false makes made less same a b c d e is = cc
comes_by x y r true true made false same a b c d e is = cc
comes_by x y r true true true true same a b c d e is = let here : Coherence ≡ r = cc in
    subst (λ (q : Reason). ComesAfter q x y) here (eqb-true y.entry.op.line x.entry.op.line a, c, b, ltb-true y.entry.version x.entry.version d)
comes_by x y r true true false true same a b c d e is = let here : FromRead ≡ r = cc in
    subst (λ (q : Reason). ComesAfter q x y) here (eqb-true y.entry.op.line x.entry.op.line a, c, b, ltb-true y.entry.version x.entry.version d)
comes_by x y r true false false less same a b c d e is = cc
comes_by x y r true false true less false a b c d e is = cc
comes_by x y r true false true less true a b c d e is = let here : ReadsFrom ≡ r = cc in
    subst (λ (q : Reason). ComesAfter q x y) here (eqb-true y.entry.op.line x.entry.op.line a, c, b, eqb-true y.entry.version x.entry.version e)

-- a reason on the line is one
comes_after : (x y : Step) (r : Reason) → line_reason x.entry y.entry ≡ Some r → ComesAfter r x y
comes_after x y r is = comes_by x y r (eqb y.entry.op.line x.entry.op.line) (is_making x.entry) (is_making y.entry) (ltb y.entry.version x.entry.version)
    (eqb y.entry.version x.entry.version) refl refl refl refl refl is

-- ---- steps

pub chain_joined : (steps : List Step) (x : Step) (rest : List Step) (end : Step) → IsChain steps x → IsChain (x ∷ rest) end → IsChain (steps ++ x ∷ rest) end
chain_joined [] x rest end a b = b
chain_joined (s ∷ []) x rest end a b = (a, b)
chain_joined (s ∷ t ∷ steps) x rest end a b = (a.0, chain_joined (t ∷ steps) x rest end a.1 b)

pub chain_dropped : (steps : List Step) (end : Step) (n : ℕ) → IsChain steps end → IsChain (drop n steps) end
chain_dropped steps end zero chain = chain
chain_dropped (s ∷ t ∷ steps) end (suc n) chain = chain_dropped (t ∷ steps) end n chain.1
chain_dropped (s ∷ []) end (suc (suc n)) chain = tt
chain_dropped _ end _ chain = tt

-- the entry that is left first is one
same_entry : (logs : List (List Entry)) (next : List ℕ) (node : ℕ) (end : Step) (other : Entry) → IsFirstLeft logs next node end
    → slice_get (log_of logs node) (get_or next node 0) ≡ Some other → other ≡ end.entry
same_entry logs next node end other first at = grind arith

same_place : (a b : ℕ) → a ≤ b → (a < b → ⊥) → a ≡ b
same_place a b le ne = elim (cases_lt a b) [ inl lt ↦ absurd (ne lt) | inr past ↦ omega arith ]

before_place : (a b c d : ℕ) → a ≡ c → b ≡ d → c < d → a < b
before_place a b c d e f lt = omega arith

one_value : (o : Option Entry) (x y : Entry) → o ≡ Some x → o ≡ Some y → x ≡ y
one_value o x y e f = cc

own_at : (logs : List (List Entry)) (node place : ℕ) (y : Entry) → AreOwn logs → slice_get (log_of logs node) place ≡ Some y → y.node ≡ node
own_at logs node place y own at = let found = got (log_of logs node) place y at in ap (λ (e : Entry). e.node) (sym found.1) ∙ own node place no_entry found.0

-- it waits for an entry that is left first of its node
pub leads_one : (logs : List (List Entry)) (next : List ℕ) (from node place : ℕ) (x : Step) → IsFirstLeft logs next from x
    → IsBlocker logs next x.entry node place x.reason → (get_or next node 0 < place → ⊥) → LeadsTo logs next (x ∷ []) from node
leads_one logs next from node place x begins found not_behind = grind (arith, same_place, same_entry, comes_after)

-- or for one behind it
pub leads_two : (logs : List (List Entry)) (next : List ℕ) (from node place : ℕ) (x y : Step) → AreOwn logs → IsFirstLeft logs next from x
    → IsBlocker logs next x.entry node place x.reason → slice_get (log_of logs node) place ≡ Some y.entry → y.place ≡ place → y.reason ≡ Logged
    → get_or next node 0 < place → LeadsTo logs next (x ∷ y ∷ []) from node
leads_two logs next from node place x y own begins found at is logged behind = grind (arith, own_at, one_value, comes_after, before_place)

-- ---- as the code reads them

get_is : (xs : List Entry) (k : ℕ) → k < length xs → slice_get xs k ≡ Some (get_or xs k no_entry)
get_is [] k lt = absurd (omega arith)
get_is (x ∷ xs) zero lt = refl
get_is (x ∷ xs) (suc k) lt = get_is xs k (omega arith)

pub begins_at : (logs : List (List Entry)) (next : List ℕ) (node : ℕ) (log : List Entry) (reason : Reason) → AreOwn logs → log ≡ log_of logs node
    → get_or next node 0 < length log
    → IsFirstLeft logs next node (record { entry = get_or log (get_or next node 0) no_entry; place = get_or next node 0; reason = reason })
begins_at logs next node log reason own is below = grind (arith, no_entry, get_is, own_at)

pub never_free : (logs : List (List Entry)) (next : List ℕ) (node : ℕ) (log : List Entry) → AreBlocked (rests_of logs next) → node < MAX_NODES
    → log ≡ log_of logs node → get_or next node 0 < length log
    → ((m : ℕ) → AllByRecursion (λ other. line_reason (get_or log (get_or next node 0) no_entry) other ≡ None) (log_of (rests_of logs next) m)) → ⊥
never_free logs next node log blocked lt is below none =
    let place = get_or next node 0 in
    let front = front_at logs next node place lt refl (subst (λ (xs : List Entry). place < length xs) is below) in
    blocked node (get_or log place no_entry) (drop (place + 1) (log_of logs node)) lt
    (front ∙ ap (λ (xs : List Entry). get_or xs place no_entry ∷ drop (place + 1) (log_of logs node)) (sym is)) none

-- where the blocker stands
pub blocker_below : (logs : List (List Entry)) (next : List ℕ) (x : Entry) (node place : ℕ) (reason : Reason) → IsBlocker logs next x node place reason
    → place < length (log_of logs node)
blocker_below logs next x node place reason found = (got (log_of logs node) place found.other found.here).0

pub behind_at : (logs : List (List Entry)) (node place : ℕ) (log : List Entry) → log ≡ log_of logs node → place < length log
    → slice_get (log_of logs node) place ≡ Some (get_or log place no_entry)
behind_at logs node place log is below = ap (λ (xs : List Entry). slice_get xs place) (sym is) ∙ get_is log place below
