-- What a node may issue may be issued before anything else is done.
use Rattle.std.proofs.Common.{◌≡◌, ◌≢◌, ◌⊎◌, ℕ, zero, suc, ◌+◌, ◌-◌, ◌<◌, ◌==◌, ◌&&◌, nat_lt, not, Bool, true, false, if◌then◌else◌, List, [], ◌∷◌, ◌++◌}
use Rattle.std.proofs.Common.{length, set, get_or, Option, Some, None, refl, sym, ap, subst, ◌∙◌, arith, inl, inr}
use Rattle.std.proofs.lemmas.{Bool.{and_parts, cases_eq, cases_lt, eq-eqb, eqb-true, ltb-true}}
use Rattle.std.proofs.lemmas.Option.{get_or_from_slice_get, slice_get-get_or, slice_get_past}
use Rattle.std.specs.Prelude.{slice_get}
use Rattle.sci_core.proofs.Basics.Options.{same_some}
use Rattle.sci_orders.proofs.Changes.{answer_given, issued_apart, issued_own, list_below, performed_apart, performed_here, performed_length, performed_own}
use Rattle.sci_orders.proofs.Changes.{performed_other, performed_waits, reply_done, waiting_before, waiting_below, issued_other}
use Rattle.sci_orders.proofs.{Following.{free_of, may_if, not_true}, Issuing.{IsFree}, Progress.{AreAnswered}}
use Rattle.sci_orders.proofs.{Reaching.{step_fits}}
use Rattle.sci_orders.specs.Eager.{IsEagerStep, IsFoundIn, MayIssue}
use Rattle.sci_orders.specs.Positions.{Fits, IsReachedIn, IsStep, Operations, Position, answer_at, answers_of, is_blocked}
use Rattle.sci_orders.specs.Positions.{may_issue_next, opening_position}
use Rattle.sci_orders.specs.Positions.{operation_at, own_of, step_as, step_at, waiting_at, with_issued_at, with_performed_at, word_place}
use Rattle.sci_orders.specs.Orders.{one_less_at}
use Rattle.sci_words.specs.{Operation.{effect}, declared.operation.Op.{Op}}
use Rattle.sci_orders.specs.declared.standing.Answer.{Answer}
use Rattle.sci_orders.specs.declared.standing.Answer.TheVariants as answer

-- ---- what a step is

-- the next operation of a node is issued
pub record Issues (operations : Operations) (window : ℕ) (p q : Position) (n i : ℕ) : Type 0 where
  pub at : i ≡ length (answers_of p n)
  pub may : MayIssue operations window p n
  pub is : q ≡ with_issued_at p n

-- an operation that waits is performed
pub record Performs (operations : Operations) (p q : Position) (n i : ℕ) : Type 0 where
  pub waits : answer_at p n i ≡ answer.Waiting
  pub is : q ≡ with_performed_at (operation_at operations n i) p n i

pub may_step : (operations : Operations) (window : ℕ) (p : Position) (n : ℕ) → MayIssue operations window p n
    → step_at operations window p n (length (answers_of p n)) ≡ Some (with_issued_at p n)
unfolding step_at
may_step operations window p n m = grind (arith, slice_get_past)

pub waits_step : (operations : Operations) (window : ℕ) (p : Position) (n i : ℕ) → answer_at p n i ≡ answer.Waiting
    → step_at operations window p n i ≡ Some (with_performed_at (operation_at operations n i) p n i)
unfolding step_at
waits_step operations window p n i waits =
    ap (step_as operations window p n i) (slice_get-get_or (answers_of p n) i answer.Stored (waiting_below p n i waits) ∙ ap Some waits)

module _ (operations : Operations) (window : ℕ) (p q : Position) (n i : ℕ) (below : i < length (own_of operations n)) where
  issue_if : (may : Bool) → may_issue_next (own_of operations n) (answers_of p n) window i ≡ may
      → (if may then Some (with_issued_at p n) else None) ≡ Some q → Issues operations window p q n i
  issue_if false may is = cc
  issue_if true may is = grind (arith, eqb-true, and_parts, same_some)

  as_is : (o : Option Answer) → slice_get (answers_of p n) i ≡ o → step_as operations window p n i o ≡ Some q
      → Issues operations window p q n i ⊎ Performs operations p q n i
  as_is None is step = inl (issue_if (may_issue_next (own_of operations n) (answers_of p n) window i) refl step)
  as_is (Some answer.Waiting) is step = inr (record {
    waits = get_or_from_slice_get (answers_of p n) i answer.Waiting answer.Stored is;
    is = sym (same_some (with_performed_at (operation_at operations n i) p n i) q step);
  })
  as_is (Some answer.Stored) is step = cc
  as_is (Some (answer.Got w)) is step = cc

  pub step_is : step_at operations window p n i ≡ Some q → Issues operations window p q n i ⊎ Performs operations p q n i
  unfolding step_at
  step_is step = as_is (slice_get (answers_of p n) i) refl step

-- the next operation of a node comes a step further exactly if the node may issue it
pub next_issues : (operations : Operations) (window : ℕ) (p q : Position) (n next : ℕ) → next ≡ length (answers_of p n) → next < length (own_of operations n)
    → step_at operations window p n next ≡ Some q → MayIssue operations window p n × (q ≡ with_issued_at p n)
next_issues operations window p q n next is below step = grind (arith, step_is, waiting_below)

pub next_stays : (operations : Operations) (window : ℕ) (p : Position) (n next : ℕ) → next ≡ length (answers_of p n) → step_at operations window p n next ≡ None
    → MayIssue operations window p n → ⊥
next_stays operations window p n next is step may = grind (arith, may_step)

-- ---- a node that may issue may do so after any other step

pub may_same : (operations : Operations) (window : ℕ) (p r : Position) (m : ℕ) → answers_of p m ≡ answers_of r m → MayIssue operations window p m
    → MayIssue operations window r m
may_same operations window p r m same may = grind arith

pub may_after : (operations : Operations) (window : ℕ) (p : Position) (n i : ℕ) → n < length p.answers → answer_at p n i ≡ answer.Waiting
    → MayIssue operations window p n → MayIssue operations window (with_performed_at (operation_at operations n i) p n i) n
may_after operations window p n i lt waits m =
    let op = operation_at operations n i in
    let r = with_performed_at op p n i in
    let k = length (answers_of p n) in
    let long : length (answers_of r n) ≡ k = performed_length op p n i n lt in
    let more = (and_parts (k == k) (not (is_blocked (own_of operations n) (answers_of p n) k) && nat_lt (waiting_at p n) window) m.may).1 in
    let parts = and_parts (not (is_blocked (own_of operations n) (answers_of p n) k)) (nat_lt (waiting_at p n) window) more in
    let few : waiting_at p n < window = ltb-true (waiting_at p n) window parts.1 in
    let one : one_less_at n (waiting_at p) n ≡ waiting_at p n - 1 =
    ap (λ (b : Bool). if b then waiting_at p n - 1 else waiting_at p n) (eq-eqb n n refl) in
    let less = performed_waits op p n i n lt waits in
    let free : IsFree operations p n k = free_of operations p n k (not_true (is_blocked (own_of operations n) (answers_of p n) k) parts.0) in
    let still : IsFree operations r n (length (answers_of r n)) = λ j waits_ on. elim (cases_eq j i) [
      | inl e ↦
          let here : answer_at r n i ≡ answer.Waiting = ap (λ (x : ℕ). answer_at r n x) (sym e) ∙ waits_ in
          reply_done (effect op (get_or p.words (word_place op) 0)).1 (sym (performed_here op p n i lt (waiting_below p n i waits)) ∙ here)
      | inr other ↦ free j (sym (performed_other op p n i n j lt (λ both. other both.1)) ∙ waits_)
          (on ∙ ap (λ (x : ℕ). (operation_at operations n x).line) long)
    ] in
    record { below = (let was = m.below in omega arith); may = may_if operations window r n still (omega arith) }

-- ---- the order of two steps

pub set_apart : {X : Type 0} (xs : List X) (i j : ℕ) (x y : X) → i ≢ j → set (set xs i x) j y ≡ set (set xs j y) i x
set_apart [] i j x y other = refl
set_apart (z ∷ zs) zero zero x y other = absurd (other refl)
set_apart (z ∷ zs) zero (suc j) x y other = refl
set_apart (z ∷ zs) (suc i) zero x y other = refl
set_apart (z ∷ zs) (suc i) (suc j) x y other = ap (λ (ws : List _). z ∷ ws) (set_apart zs i j x y (λ e. other (ap suc e)))

pub set_again : {X : Type 0} (xs : List X) (i : ℕ) (x y : X) → set (set xs i x) i y ≡ set xs i y
set_again [] i x y = refl
set_again (z ∷ zs) zero x y = refl
set_again (z ∷ zs) (suc i) x y = ap (λ (ws : List _). z ∷ ws) (set_again zs i x y)

set_before : {X : Type 0} (xs : List X) (i : ℕ) (x y : X) → i < length xs → set (xs ++ y ∷ []) i x ≡ set xs i x ++ y ∷ []
set_before [] i x y below = absurd (omega arith)
set_before (z ∷ zs) zero x y below = refl
set_before (z ∷ zs) (suc i) x y below = ap (λ (ws : List _). z ∷ ws) (set_before zs i x y (omega arith))

-- two nodes issue in either order
issued_twice : (p : Position) (n m : ℕ) → n ≢ m → with_issued_at (with_issued_at p n) m ≡ with_issued_at (with_issued_at p m) n
issued_twice p n m apart = grind (arith, issued_apart, set_apart)

-- a node issues before or after an operation is performed
pub issued_performed : (op : Op) (p : Position) (n i m : ℕ) → m < length p.answers → n < length p.answers → i < length (answers_of p n)
    → with_issued_at (with_performed_at op p n i) m ≡ with_performed_at op (with_issued_at p m) n i
issued_performed op p n i m known lt below = grind (
  arith,
  answer_given,
  cases_eq,
  performed_own,
  issued_own,
  set_again,
  set_before,
  performed_apart,
  set_apart,
  issued_apart,
)

-- ---- ways from one position to another

-- this number of steps leads from p to q
abbrev pub Leads : Operations → (window count : ℕ) → (p q : Position) → Type 0
Leads operations window zero p q = p ≡ q
Leads operations window (suc count) p q = (r : Position) × IsStep operations window p r × Leads operations window count r q

abbrev pub LeadsEagerly : Operations → (window count : ℕ) → (p q : Position) → Type 0
LeadsEagerly operations window zero p q = p ≡ q
LeadsEagerly operations window (suc count) p q = (r : Position) × IsEagerStep operations window p r × LeadsEagerly operations window count r q

leads_on : (operations : Operations) (window count : ℕ) (p q r : Position) → Leads operations window count p q → IsStep operations window q r
    → Leads operations window (suc count) p r
leads_on operations window zero p q r is step = (r, subst (λ (x : Position). IsStep operations window x r) (sym is) step, refl)
leads_on operations window (suc count) p q r (x, first, rest) step = (x, first, leads_on operations window count x q r rest step)

pub reached_leads : (lines : ℕ) (operations : Operations) (window count : ℕ) (p : Position) → IsReachedIn lines operations window count p
    → Leads operations window count (opening_position lines operations) p
reached_leads lines operations window zero p is = sym is
reached_leads lines operations window (suc count) p (q, reached, step) =
    leads_on operations window count (opening_position lines operations) q p (reached_leads lines operations window count q reached) step

pub found_on : (lines : ℕ) (operations : Operations) (window before count : ℕ) (p q : Position) → IsFoundIn lines operations window before p
    → LeadsEagerly operations window count p q → IsFoundIn lines operations window (before + count) q
found_on lines operations window before zero p q found is = grind arith
found_on lines operations window before (suc count) p q found (r, step, rest) =
    let same : suc before + count ≡ before + suc count = omega arith in
    subst (λ (k : ℕ). IsFoundIn lines operations window k q) same
    (found_on lines operations window (suc before) count r q (p, found, step) rest)

-- ---- what a node may issue is issued first

-- a way that begins with the Issue of a node
pub record Begins (operations : Operations) (window count : ℕ) (p q : Position) (m : ℕ) : Type 0 where
  pub rest : ℕ
  pub is : count ≡ suc rest
  pub leads : Leads operations window rest (with_issued_at p m) q

abbrev pub issue_step : (operations : Operations) (window : ℕ) (p : Position) (m : ℕ) → MayIssue operations window p m
    → IsStep operations window p (with_issued_at p m)
issue_step operations window p m may = record {
  node = m;
  place = length (answers_of p m);
  below = may.below;
  step = may_step operations window p m may;
}

-- a step that is taken after the Issue in place of before it
begins_on : (operations : Operations) (window count : ℕ) (p r q : Position) (m n i : ℕ) → Begins operations window count r q m
    → i < length (own_of operations n) → step_at operations window (with_issued_at p m) n i ≡ Some (with_issued_at r m)
    → Begins operations window (suc count) p q m
begins_on operations window count p r q m n i rest below step = grind arith

pub issue_first : (operations : Operations) (window count : ℕ) (p q : Position) (m : ℕ) → Fits operations p → AreAnswered operations q
    → MayIssue operations window p m → Leads operations window count p q → Begins operations window count p q m
issue_first operations window zero p q m fits all may is = grind arith
issue_first operations window (suc count) p q m fits all may (r, s, rest) =
    let n = s.node in
    let i = s.place in
    let nodes = fits.nodes in
    let known = list_below operations m (length (answers_of p m)) may.below in
    let mine : m < length p.answers = omega arith in
    let other = list_below operations n i s.below in
    let lt : n < length p.answers = omega arith in
    let fits_r = step_fits operations window p r n i fits s.below s.step in
    elim (step_is operations window p r n i s.below s.step) [
      | inl issues ↦ elim (cases_eq n m) [
        | inl e ↦ record {
          rest = count;
          is = refl;
          leads = subst (λ (x : Position). Leads operations window count x q) (issues.is ∙ ap (with_issued_at p) e) rest;
        }
        | inr apart ↦
            let there : answers_of p m ≡ answers_of r m =
            sym (ap (λ (x : Position). answers_of x m) issues.is ∙ issued_apart p n m (λ e. apart (sym e))) in
            let next = issue_first operations window count r q m fits_r all (may_same operations window p r m there may) rest in
            let here : answers_of p n ≡ answers_of (with_issued_at p m) n = sym (issued_apart p m n apart) in
            let still = may_same operations window p (with_issued_at p m) n here issues.may in
            let place : length (answers_of (with_issued_at p m) n) ≡ i = sym (issues.at ∙ ap (λ (as_ : List Answer). length as_) here) in
            let to : with_issued_at (with_issued_at p m) n ≡ with_issued_at r m =
            sym (issued_twice p n m apart) ∙ ap (λ (x : Position). with_issued_at x m) (sym issues.is) in
            begins_on operations window count p r q m n i next s.below
            (subst (λ (k : ℕ). step_at operations window (with_issued_at p m) n k ≡ Some (with_issued_at r m)) place
            (may_step operations window (with_issued_at p m) n still ∙ ap Some to))
      ]
      | inr performs ↦
          let op = operation_at operations n i in
          let low = waiting_below p n i performs.waits in
          let after_ : MayIssue operations window (with_performed_at op p n i) m = elim (cases_eq n m) [
            | inl e ↦ subst (MayIssue operations window (with_performed_at op p n i)) e
                (may_after operations window p n i lt performs.waits (subst (MayIssue operations window p) (sym e) may))
            | inr apart ↦ may_same operations window p (with_performed_at op p n i) m (sym (performed_apart op p n i m (λ e. apart (sym e)))) may
          ] in
          let next = issue_first operations window count r q m fits_r all (subst (λ (x : Position). MayIssue operations window x m) (sym performs.is) after_)
          rest in
          let waits : answer_at (with_issued_at p m) n i ≡ answer.Waiting =
          issued_other p m n i mine (waiting_before p m n i performs.waits) ∙ performs.waits in
          let to : with_performed_at op (with_issued_at p m) n i ≡ with_issued_at r m =
          sym (issued_performed op p n i m mine lt low) ∙ ap (λ (x : Position). with_issued_at x m) (sym performs.is) in
          begins_on operations window count p r q m n i next s.below (waits_step operations window (with_issued_at p m) n i waits ∙ ap Some to)
    ]

-- ---- whether a node may issue

may_known : (operations : Operations) (window : ℕ) (p : Position) (n : ℕ) (b : Bool)
    → may_issue_next (own_of operations n) (answers_of p n) window (length (answers_of p n)) ≡ b → length (answers_of p n) < length (own_of operations n)
    → MayIssue operations window p n ⊎ (MayIssue operations window p n → ⊥)
may_known operations window p n true is below = inl (record { below = below; may = is })
may_known operations window p n false is below = inr (λ m. (let yes = m.may in cc))

may_cases : (operations : Operations) (window : ℕ) (p : Position) (n : ℕ) → MayIssue operations window p n ⊎ (MayIssue operations window p n → ⊥)
may_cases operations window p n = grind (arith, cases_lt, may_known)

-- the first of the nodes below a bound that may issue, or none of them does
pub record IsFirstBelow (operations : Operations) (window : ℕ) (p : Position) : Type 0 where
  pub node : ℕ
  pub may : MayIssue operations window p node
  pub first : (m : ℕ) → m < node → MayIssue operations window p m → ⊥

pub first_below : (operations : Operations) (window : ℕ) (p : Position) (bound : ℕ)
    → IsFirstBelow operations window p ⊎ ((m : ℕ) → m < bound → MayIssue operations window p m → ⊥)
first_below operations window p zero = inr (λ m low. absurd (omega arith))
first_below operations window p (suc bound) = elim (first_below operations window p bound) [
  | inl found ↦ inl found
  | inr none ↦ elim (may_cases operations window p bound) [
    | inl may ↦ inl (record { node = bound; may = may; first = none })
    | inr not_ ↦ inr (λ m low may. elim (cases_eq m bound) [
      | inl e ↦ not_ (subst (MayIssue operations window p) e may)
      | inr other ↦ none m (omega arith) may
    ])
  ]
]
