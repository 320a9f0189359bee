-- No schedule has more waiting than the script has operations.
use Rattle.std.proofs.Common.{◌≡◌, ℕ, suc, ◌+◌, ◌-◌, ◌*◌, ◌≤◌, Bool, if◌then◌else◌, List, [], ◌∷◌, length, refl, sym, ap, arith, inl, inr}
use Rattle.std.proofs.lemmas.{Bool.{cases_eq, cases_lt, eq-eqb, ne_eqb}, List.{get_or_past, Sums.{get_or-le-sum_by}}}
use Rattle.sci_words.specs.declared.{event.Event.{Event}, operation.Op.{Op}}
use Rattle.sci_orders.specs.{Orders.{AreFew, IsOrderOf, issues_at, one_less_at, one_more_at}, Positions.{Operations, operation_count, own_of}}
use Rattle.sci_words.specs.declared.event.Event.TheVariants as event

issue_here : (n : ℕ) (op : Op) (order : List Event) → length (issues_at n (event.Issue n op ∷ order)) ≡ suc (length (issues_at n order))
issue_here n op order = ap (λ (b : Bool). length (if b then op ∷ issues_at n order else issues_at n order)) (eq-eqb n n refl)

issue_other : (n m : ℕ) (op : Op) (order : List Event) → (m ≡ n → ⊥) → length (issues_at m (event.Issue n op ∷ order)) ≡ length (issues_at m order)
issue_other n m op order apart =
    ap (λ (b : Bool). length (if b then op ∷ issues_at m order else issues_at m order)) (ne_eqb n m (λ e. apart (sym e)))

few_enough : (window : ℕ) (order : List Event) (waiting : ℕ → ℕ) → ((n : ℕ) → waiting n + length (issues_at n order) ≤ window) → AreFew window waiting order
few_enough window [] waiting room = tt
few_enough window (event.Issue n op ∷ order) waiting room =
    let all = room n in
    let here = issue_here n op order in (
      omega arith,
      few_enough window order (one_more_at n waiting) (λ m. elim (cases_eq m n) [
        | inl e ↦
            let more : one_more_at n waiting m ≡ waiting m + 1 = ap (λ (b : Bool). if b then waiting m + 1 else waiting m) (eq-eqb m n e) in
            let same : waiting m ≡ waiting n = ap waiting e in
            let issues : length (issues_at m order) ≡ length (issues_at n order) = ap (λ (k : ℕ). length (issues_at k order)) e in
            omega arith
        | inr apart ↦
            let same : one_more_at n waiting m ≡ waiting m = ap (λ (b : Bool). if b then waiting m + 1 else waiting m) (ne_eqb m n apart) in
            let issues = issue_other n m op order apart in
            let room_ = room m in
            omega arith
      ]),
    )
few_enough window (event.Perform n line ∷ order) waiting room = few_enough window order (one_less_at n waiting) (λ m. elim (cases_eq m n) [
  | inl e ↦
      let less : one_less_at n waiting m ≡ waiting m - 1 = ap (λ (b : Bool). if b then waiting m - 1 else waiting m) (eq-eqb m n e) in
      let room_ = room m in
      omega arith
  | inr apart ↦
      let same : one_less_at n waiting m ≡ waiting m = ap (λ (b : Bool). if b then waiting m - 1 else waiting m) (ne_eqb m n apart) in
      let room_ = room m in
      omega arith
])
few_enough window (event.Ask n line kind ∷ order) waiting room = few_enough window order waiting room
few_enough window (event.Serve from n ∷ order) waiting room = few_enough window order waiting room
few_enough window (event.Refuse from n ∷ order) waiting room = few_enough window order waiting room
few_enough window (event.Reply n ∷ order) waiting room = few_enough window order waiting room
few_enough window (event.Accept from n ∷ order) waiting room = few_enough window order waiting room

-- a node has no more operations than all nodes together
own_few : (operations : Operations) (n : ℕ) → length (own_of operations n) ≤ operation_count operations
own_few operations n = elim (cases_lt n (length operations)) [
  | inl lt ↦ get_or-le-sum_by (λ (own : List Op). length own) operations n [] lt
  | inr past ↦ let none : length (own_of operations n) ≡ 0 = ap (λ (own : List Op). length own) (get_or_past operations n [] past) in omega arith
]

pub any_order : (operations : Operations) (order : List Event) → ((n : ℕ) → issues_at n order ≡ own_of operations n)
    → length order ≡ operation_count operations * 2 → IsOrderOf operations (operation_count operations) order
any_order operations order issued whole = grind (arith, few_enough, own_few)
