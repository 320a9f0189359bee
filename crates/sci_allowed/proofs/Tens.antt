-- The schedule of a run has ten events for each operation of the script: an Issue, and nine for its Perform.
use Rattle.std.proofs.Common.{◌≡◌, ◌==◌, ℕ, zero, suc, ◌+◌, ◌*◌, ◌<◌, ◌≤◌, Bool, true, false, if◌then◌else◌, cond, List, [], ◌∷◌, length, map}
use Rattle.std.proofs.Common.{take, refl, sym, ap, subst, ◌∙◌, arith, inl, inr}
use Rattle.std.proofs.Math.Seq.{take-length}
use Rattle.std.proofs.lemmas.Bool.{cases_eq, eq-eqb, ne_eqb}
use Rattle.std.proofs.lemmas.List.{FromFn.{length-map-range_with_len}, Sums.{sum_by_more}}
use Rattle.std.specs.Prelude.{filter}
use Rattle.sci_words.specs.declared.{event.Event.{Event}, operation.Op.{Op}}
use Rattle.sci_text.specs.Script.{ScriptValue, operations_of}
use Rattle.sci_core.specs.Size.{Size}
use Rattle.sci_orders.specs.{Orders.{IsOrderOf, issues_at}, Positions.{Operations, operation_count, own_of}, Witness.{schedule_of}}
use Rattle.sci_allowed.{proofs.Shares.{own_is_share}, specs.Allowed.{shares_of}}
use Rattle.sci_words.specs.declared.event.Event.TheVariants as event

-- how many of the events are Issues
abbrev issues : List Event → ℕ
issues [] = 0
issues (event.Issue n op ∷ order) = issues order + 1
issues (_ ∷ order) = issues order

-- all but the Issues are nine events each
schedule_long : (size : Size) (order : List Event) → length (schedule_of size order) + 8 * issues order ≤ 9 * length order
schedule_long size [] = omega arith
schedule_long size (event.Issue n op ∷ order) = let rest = schedule_long size order in omega arith
schedule_long size (event.Perform n line ∷ order) = let rest = schedule_long size order in omega arith
schedule_long size (event.Ask n line kind ∷ order) = let rest = schedule_long size order in omega arith
schedule_long size (event.Serve from n ∷ order) = let rest = schedule_long size order in omega arith
schedule_long size (event.Refuse from n ∷ order) = let rest = schedule_long size order in omega arith
schedule_long size (event.Reply n ∷ order) = let rest = schedule_long size order in omega arith
schedule_long size (event.Accept from n ∷ order) = let rest = schedule_long size order in omega arith

-- ---- the Issues of some nodes are some of all Issues

-- how many Issues the first nodes have, this number of them
abbrev issues_below : ℕ → List Event → ℕ
issues_below zero order = 0
issues_below (suc n) order = issues_below n order + length (issues_at n order)

issue_here : (n : ℕ) (op : Op) (order : List Event) → length (issues_at n (event.Issue n op ∷ order)) ≡ suc (length (issues_at n order))
issue_here n op order = ap (λ (b : Bool). length (if b then op ∷ issues_at n order else issues_at n order)) (eq-eqb n n refl)

issue_other : (n m : ℕ) (op : Op) (order : List Event) → (m ≡ n → ⊥) → length (issues_at m (event.Issue n op ∷ order)) ≡ length (issues_at m order)
issue_other n m op order apart =
    ap (λ (b : Bool). length (if b then op ∷ issues_at m order else issues_at m order)) (ne_eqb n m (λ e. apart (sym e)))

below_none : (k : ℕ) → issues_below k [] ≡ 0
below_none zero = refl
below_none (suc k) = let rest = below_none k in omega arith

below_past : (k n : ℕ) (op : Op) (order : List Event) → k ≤ n → issues_below k (event.Issue n op ∷ order) ≡ issues_below k order
below_past zero n op order le = refl
below_past (suc k) n op order le =
    let rest = below_past k n op order (omega arith) in
    let last = issue_other n k op order (λ e. omega arith) in
    omega arith

below_more : (k n : ℕ) (op : Op) (order : List Event) → issues_below k (event.Issue n op ∷ order) ≤ issues_below k order + 1
below_more zero n op order = omega arith
below_more (suc k) n op order = elim (cases_eq k n) [
  | inl e ↦
      let rest = below_past k n op order (omega arith) in
      let last : length (issues_at k (event.Issue n op ∷ order)) ≡ suc (length (issues_at k order)) =
      subst (λ (m : ℕ). length (issues_at k (event.Issue m op ∷ order)) ≡ suc (length (issues_at k order))) e (issue_here k op order) in
      omega arith
  | inr apart ↦
      let rest = below_more k n op order in
      let last = issue_other n k op order apart in
      omega arith
]

below_same : (k : ℕ) (e : Event) (order : List Event) → ((n : ℕ) → issues_at n (e ∷ order) ≡ issues_at n order)
    → issues_below k (e ∷ order) ≡ issues_below k order
below_same zero e order same = refl
below_same (suc k) e order same =
    let rest = below_same k e order same in
    let last = ap (λ (ops : List Op). length ops) (same k) in
    omega arith

below_all : (k : ℕ) (order : List Event) → issues_below k order ≤ issues order
below_all k [] = let none = below_none k in omega arith
below_all k (event.Issue n op ∷ order) = let rest = below_all k order in let more = below_more k n op order in omega arith
below_all k (event.Perform n line ∷ order) =
    let rest = below_all k order in let same = below_same k (event.Perform n line) order (λ m. refl) in omega arith
below_all k (event.Ask n line kind ∷ order) =
    let rest = below_all k order in let same = below_same k (event.Ask n line kind) order (λ m. refl) in omega arith
below_all k (event.Serve from n ∷ order) =
    let rest = below_all k order in let same = below_same k (event.Serve from n) order (λ m. refl) in omega arith
below_all k (event.Refuse from n ∷ order) =
    let rest = below_all k order in let same = below_same k (event.Refuse from n) order (λ m. refl) in omega arith
below_all k (event.Reply n ∷ order) = let rest = below_all k order in let same = below_same k (event.Reply n) order (λ m. refl) in omega arith
below_all k (event.Accept from n ∷ order) =
    let rest = below_all k order in let same = below_same k (event.Accept from n) order (λ m. refl) in omega arith

-- ---- each operation has an Issue

first_issued : (operations : Operations) (order : List Event) → ((n : ℕ) → n < length operations → issues_at n order ≡ own_of operations n)
    → (k : ℕ) → k ≤ length operations → operation_count (take k operations) ≡ issues_below k order
first_issued operations order issued zero le = refl
first_issued operations order issued (suc k) le =
    let before = first_issued operations order issued k (omega arith) in
    let more = sum_by_more (λ (own : List Op). length own) operations k [] (omega arith) in
    let same : length (issues_at k order) ≡ length (own_of operations k) = ap (λ (ops : List Op). length ops) (issued k (omega arith)) in
    let next : operation_count (take (suc k) operations) ≡ operation_count (take (k + 1) operations) =
    ap (λ (n : ℕ). operation_count (take n operations)) (let step : suc k ≡ k + 1 = omega arith in step) in
    omega arith

-- an order that issues each operation has no fewer Issues
enough_issues : (operations : Operations) (order : List Event) → ((n : ℕ) → n < length operations → issues_at n order ≡ own_of operations n)
    → operation_count operations ≤ issues order
enough_issues operations order issued =
    let all = first_issued operations order issued (length operations) (omega arith) in
    let whole = ap operation_count (take-length operations) in
    let below = below_all (length operations) order in
    omega arith

pub ten_each : (size : Size) (operations : Operations) (window : ℕ) (order : List Event) → IsOrderOf operations window order
    → length (schedule_of size order) ≤ operation_count operations * 10
ten_each size operations window order is = grind (arith, schedule_long, enough_issues)

-- ---- and the shares of a script are its operations

-- the script's operations, each issued in its turn
abbrev all_issued : List (ℕ × Op) → List Event
all_issued operations = map (λ p. event.Issue p.0 p.1) operations

one_issued : (n : ℕ) (p : ℕ × Op) (rest : List (ℕ × Op)) (ops : List Op) (b : Bool) → ops ≡ map (λ q. q.1) rest
    → (if b then p.1 ∷ ops else ops) ≡ map (λ q. q.1) (cond b (p ∷ rest) rest)
one_issued n p rest ops true is = ap (λ (os : List Op). p.1 ∷ os) is
one_issued n p rest ops false is = is

issued_are : (n : ℕ) (operations : List (ℕ × Op)) → issues_at n (all_issued operations) ≡ operations_of n operations
issued_are n [] = refl
issued_are n (p ∷ operations) =
    one_issued n p (filter (λ q. q.0 == n) operations) (issues_at n (all_issued operations)) (p.0 == n) (issued_are n operations)

all_are : (operations : List (ℕ × Op)) → issues (all_issued operations) ≡ length operations
all_are [] = refl
all_are (p ∷ operations) = let rest = all_are operations in omega arith

pub shares_few : (script : ScriptValue) → operation_count (shares_of script) ≤ length script.operations
shares_few script =
    let long = length-map-range_with_len (λ (node : ℕ). operations_of node script.operations) 0 script.nodes in
    let enough = enough_issues (shares_of script) (all_issued script.operations) (λ n below.
    issued_are n script.operations ∙ sym (own_is_share script n (omega arith))) in
    let all = all_are script.operations in
    omega arith
