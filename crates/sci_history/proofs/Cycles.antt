-- No order makes logs sequentially consistent in which there is a cycle: each entry of it would stand before itself.
use Rattle.std.proofs.Common.{◌≡◌, ℕ, zero, suc, ◌<◌, ◌≤◌, Bool, true, cond, List, [], ◌∷◌, length, get_or, Some, refl, sym, ap, subst, ◌∙◌, arith, inl}
use Rattle.std.proofs.{Common.{inr}, lemmas.Bool.{cases_Bool, cases_lt, eq-eqb}}
use Rattle.std.specs.{Prelude.{slice_get}, List.{filter, AllByRecursion}}
use Rattle.sci_words.specs.{declared.stamped.Stamped.{Stamped}, Stamped.{zero_stamped}}
use Rattle.sci_history.specs.declared.{entry.Entry.{Entry}, order_verdict.Reason.{Reason}}
use Rattle.sci_history.specs.declared.order_verdict.Reason.TheVariants.{Logged, ReadsFrom, FromRead, Coherence}
use Rattle.sci_history.specs.{declared.order_verdict.Step.{Step}, Cycle.{IsInLog, ComesAfter, IsChain, IsCycle}}
use Rattle.sci_history.specs.{Memory.{stamped_at}, Placed.{is_of_node, is_on_line}, Sequential.{IsSequentialOrder}}
use Rattle.sci_history.proofs.{AuditFinds.{no_entry}, Histories.{places-rise}, Order.{IsInOrder, filter_yes, filter_no}}
use Rattle.sci_history.proofs.Placement.{place}

-- ---- where an entry that passes a test stands among all

-- the place of the entry that stands at this place among those that pass
abbrev pub place_in : (Entry → Bool) → List Entry → ℕ → ℕ
place_in p [] k = 0
place_in p (e ∷ es) zero = cond (p e) 0 (suc (place_in p es 0))
place_in p (e ∷ es) (suc k) = cond (p e) (suc (place_in p es k)) (suc (place_in p es (suc k)))

-- they are different: a pair of facts at each place
pub record StandsAt (p : Entry → Bool) (es : List Entry) (k : ℕ) : Type 0 where
  pub below : place_in p es k < length es
  pub same : get_or es (place_in p es k) no_entry ≡ get_or (filter p es) k no_entry

pub stands : (p : Entry → Bool) (es : List Entry) (k : ℕ) → k < length (filter p es) → StandsAt p es k
stands p [] k lt = absurd (omega arith)
stands p (e ∷ es) zero lt = elim (cases_Bool (p e)) [
  | inl passes ↦ record { below = rw passes (omega arith); same = rw passes refl }
  | inr fails ↦
      let rest = stands p es zero (subst (λ (xs : List Entry). 0 < length xs) (filter_no p e es fails) lt) in
      let low = rest.below in
      record { below = rw fails (omega arith); same = rw fails rest.same }
]
stands p (e ∷ es) (suc k) lt = elim (cases_Bool (p e)) [
  | inl passes ↦
      let longer : suc k < length (e ∷ filter p es) = subst (λ (xs : List Entry). suc k < length xs) (filter_yes p e es passes) lt in
      let rest = stands p es k (omega arith) in
      let low = rest.below in
      record { below = rw passes (omega arith); same = rw passes rest.same }
  | inr fails ↦
      let rest = stands p es (suc k) (subst (λ (xs : List Entry). suc k < length xs) (filter_no p e es fails) lt) in
      let low = rest.below in
      record { below = rw fails (omega arith); same = rw fails rest.same }
]

-- a later one among those that pass stands later
pub later : (p : Entry → Bool) (es : List Entry) (j k : ℕ) → j < k → k < length (filter p es) → place_in p es j < place_in p es k
later p [] j k lt inside = absurd (omega arith)
later p (e ∷ es) j zero lt inside = absurd (omega arith)
later p (e ∷ es) zero (suc k) lt inside = elim (cases_Bool (p e)) [
  | inl passes ↦ rw passes (omega arith)
  | inr fails ↦
      let rest = later p es zero (suc k) lt (subst (λ (xs : List Entry). suc k < length xs) (filter_no p e es fails) inside) in
      rw fails (omega arith)
]
later p (e ∷ es) (suc j) (suc k) lt inside = elim (cases_Bool (p e)) [
  | inl passes ↦
      let longer : suc k < length (e ∷ filter p es) = subst (λ (xs : List Entry). suc k < length xs) (filter_yes p e es passes) inside in
      let rest = later p es j k (omega arith) (omega arith) in
      rw passes (omega arith)
  | inr fails ↦
      let rest = later p es (suc j) (suc k) lt (subst (λ (xs : List Entry). suc k < length xs) (filter_no p e es fails) inside) in
      rw fails (omega arith)
]

-- ---- entries of a line in their order

at_of_all : (P : Entry → Type 0) (p : Entry → Bool) (es : List Entry) (i : ℕ) → AllByRecursion P (filter p es) → i < length es → p (get_or es i no_entry) ≡ true
    → P (get_or es i no_entry)
at_of_all P p [] i all lt passes = absurd (omega arith)
at_of_all P p (e ∷ es) zero all lt passes = (subst (AllByRecursion P) (filter_yes p e es passes) all).0
at_of_all P p (e ∷ es) (suc i) all lt passes = elim (cases_Bool (p e)) [
  | inl first ↦ at_of_all P p es i (subst (AllByRecursion P) (filter_yes p e es first) all).1 (omega arith) passes
  | inr fails ↦ at_of_all P p es i (subst (AllByRecursion P) (filter_no p e es fails) all) (omega arith) passes
]

in_order_at : (key : Entry → ℕ) (p : Entry → Bool) (es : List Entry) (i j : ℕ) → IsInOrder key (filter p es) → i < j → j < length es
    → p (get_or es i no_entry) ≡ true → p (get_or es j no_entry) ≡ true
    → key (get_or es i no_entry) ≤ key (get_or es j no_entry)
in_order_at key p [] i j ordered lt inside here there = absurd (omega arith)
in_order_at key p (e ∷ es) i zero ordered lt inside here there = absurd (omega arith)
in_order_at key p (e ∷ es) zero (suc j) ordered lt inside here there =
    at_of_all (λ (x : Entry). key e ≤ key x) p es j (subst (IsInOrder key) (filter_yes p e es here) ordered).0 (omega arith) there
in_order_at key p (e ∷ es) (suc i) (suc j) ordered lt inside here there = elim (cases_Bool (p e)) [
  | inl first ↦ in_order_at key p es i j (subst (IsInOrder key) (filter_yes p e es first) ordered).1 (omega arith) (omega arith) here there
  | inr fails ↦ in_order_at key p es i j (subst (IsInOrder key) (filter_no p e es fails) ordered) (omega arith) (omega arith) here there
]

-- what has the lesser key stands before
pub before_by_key : (key : Entry → ℕ) (p : Entry → Bool) (es : List Entry) (i j : ℕ) → IsInOrder key (filter p es) → i < length es → j < length es
    → p (get_or es i no_entry) ≡ true → p (get_or es j no_entry) ≡ true
    → key (get_or es i no_entry) < key (get_or es j no_entry) → i < j
before_by_key key p es i j ordered low high here there less = elim (cases_lt i j) [
  | inl lt ↦ lt
  | inr past ↦ elim (cases_lt j i) [
    | inl lt ↦ let le = in_order_at key p es j i ordered lt low there here in absurd (omega arith)
    | inr same ↦ let both : i ≡ j = omega arith in let equal = ap (λ (k : ℕ). key (get_or es k no_entry)) both in absurd (omega arith)
  ]
]

-- ---- one step

-- the place of a step's entry in the order
abbrev stands_at : List Entry → Step → ℕ
stands_at order x = place_in (is_of_node x.entry.node) order x.place

pub got : (xs : List Entry) (k : ℕ) (x : Entry) → slice_get xs k ≡ Some x → (k < length xs) × (get_or xs k no_entry ≡ x)
got [] k x e = absurd cc
got (y ∷ xs) zero x e = (omega arith, cc)
got (y ∷ xs) (suc k) x e = let rest = got xs k x e in let low = rest.0 in (omega arith, rest.1)

record IsPlacedAt (order : List Entry) (x : Step) : Type 0 where
  pub below : stands_at order x < length order
  pub same : get_or order (stands_at order x) no_entry ≡ x.entry

placed_at : (logs : List (List Entry)) (last : List Stamped) (order : List Entry) (x : Step) → IsSequentialOrder logs last order → IsInLog logs x
    → IsPlacedAt order x
placed_at logs last order x is logged = grind (arith, got, stands)

after_by_place : (logs : List (List Entry)) (last : List Stamped) (order : List Entry) (x y : Step) → IsSequentialOrder logs last order → IsInLog logs x
    → IsInLog logs y → y.entry.op.line ≡ x.entry.op.line → place y.entry < place x.entry → stands_at order y < stands_at order x
after_by_place logs last order x y is in_x in_y line less =
    let a = placed_at logs last order x is in_x in
    let b = placed_at logs last order y is in_y in
    let on = x.entry.op.line in
    let here : is_on_line on (get_or order (stands_at order x) no_entry) ≡ true = eq-eqb _ on (ap (λ (e : Entry). e.op.line) a.same) in
    let there : is_on_line on (get_or order (stands_at order y) no_entry) ≡ true = eq-eqb _ on (ap (λ (e : Entry). e.op.line) b.same ∙ line) in
    let rising = places-rise (filter (is_on_line on) order) zero_stamped (stamped_at last on) (is.histories on) in
    let key_x = ap place a.same in
    let key_y = ap place b.same in
    before_by_key place (is_on_line on) order (stands_at order y) (stands_at order x) rising b.below a.below there here
    (subst (λ (k : ℕ). k < place (get_or order (stands_at order x) no_entry)) (sym key_y) (subst (λ (k : ℕ). place y.entry < k) (sym key_x) less))

after_stands : (logs : List (List Entry)) (last : List Stamped) (order : List Entry) (reason : Reason) (x y : Step) → IsSequentialOrder logs last order
    → IsInLog logs x → IsInLog logs y → ComesAfter reason x y → stands_at order y < stands_at order x
after_stands logs last order Logged x y is in_x in_y after = grind (arith, got, later)
after_stands logs last order ReadsFrom x y is in_x in_y after = grind (arith, after_by_place)
after_stands logs last order FromRead x y is in_x in_y after = grind (arith, after_by_place)
after_stands logs last order Coherence x y is in_x in_y after = grind (arith, after_by_place)

-- ---- a chain, and a cycle

chain_stands : (logs : List (List Entry)) (last : List Stamped) (order : List Entry) (x : Step) (steps : List Step) (end : Step)
    → IsSequentialOrder logs last order → AllByRecursion (IsInLog logs) (x ∷ steps) → IsInLog logs end → IsChain (x ∷ steps) end
    → stands_at order end < stands_at order x
chain_stands logs last order x [] end is all in_end chain = after_stands logs last order x.reason x end is all.0 in_end chain
chain_stands logs last order x (y ∷ steps) end is all in_end chain =
    let first = after_stands logs last order x.reason x y is all.0 all.1.0 chain.0 in
    let rest = chain_stands logs last order y steps end is all.1 in_end chain.1 in
    omega arith

cycle_refuted : (logs : List (List Entry)) (last : List Stamped) (order : List Entry) (steps : List Step) → IsSequentialOrder logs last order
    → IsCycle logs steps → ⊥
cycle_refuted logs last order [] is cycle = cycle.round
cycle_refuted logs last order (x ∷ steps) is cycle = let less = chain_stands logs last order x steps x is cycle.entries cycle.entries.0 cycle.round in
    omega arith

pub no_order_with_cycle : (logs : List (List Entry)) (last : List Stamped) (steps : List Step) → IsCycle logs steps → (order : List Entry)
    → IsSequentialOrder logs last order → ⊥
no_order_with_cycle logs last steps cycle order is = cycle_refuted logs last order steps is cycle
