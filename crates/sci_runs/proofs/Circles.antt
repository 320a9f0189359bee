-- In a circle each node has a turn among as many turns as there are nodes, and so 64 among 64 times as many.
use Rattle.std.proofs.Common.{◌≡◌, ◌≤◌, ◌<◌, ◌+◌, ◌-◌, ◌*◌, ◌==◌, ℕ, zero, suc, Bool, arith, cond, List, [], ◌∷◌, ◌++◌, None, refl, sym, ap, subst}
use Rattle.std.proofs.Common.{◌∙◌, inl, inr}
use Rattle.std.proofs.lemmas.{Bool.{cases_lt, eq-eqb, le-ltb, lt-ltb}, List.Sums.{sum_by-append, sum_by-cons}}
use Rattle.std.proofs.Math.Nat.{suc-mul}
use Rattle.std.proofs.lemmas.List.{append-nil, append_assoc}
use Rattle.std.specs.Prelude.{count_by, if◌then◌else◌, nat_lt}
use Rattle.sci_runs.specs.declared.order.Order.{Order, TheVariants.{Circle}}
use Rattle.sci_runs.specs.Turns.{GivesTurns, first_order, next_node, next_order, order_after, turns_in}

-- ---- the turns of an order, in parts

after_both : (nodes second first all : ℕ) (order : Order) → all ≡ second + first
    → order_after nodes all order ≡ order_after nodes second (order_after nodes first order)
after_both nodes zero first all order is = let same : all ≡ first = omega (arith, is) in ap (λ (k : ℕ). order_after nodes k order) same
after_both nodes (suc second) first zero order is = absurd (omega (arith, is))
after_both nodes (suc second) first (suc all) order is = ap (next_order nodes) (after_both nodes second first all order (omega (arith, is)))

pub turns_both : (nodes second first all : ℕ) (order : Order) → all ≡ second + first
    → turns_in nodes all order ≡ turns_in nodes first order ++ turns_in nodes second (order_after nodes first order)
turns_both nodes zero first all order is = grind (arith, append-nil)
turns_both nodes (suc second) first zero order is = absurd (omega (arith, is))
turns_both nodes (suc second) first (suc all) order is =
    let less : all ≡ second + first = omega (arith, is) in
    let last = next_node nodes (order_after nodes second (order_after nodes first order)) in
    ap (λ (ns : List ℕ). ns ++ next_node nodes (order_after nodes all order) ∷ []) (turns_both nodes second first all order less)
    ∙ (ap (λ (o : Order). (turns_in nodes first order ++ turns_in nodes second (order_after nodes first order)) ++ next_node nodes o ∷ [])
    (after_both nodes second first all order less)
    ∙ append_assoc (turns_in nodes first order) (turns_in nodes second (order_after nodes first order)) (last ∷ []))

count_both : (n : ℕ) (first second : List ℕ)
    → count_by (λ m. m == n) (first ++ second) ≡ count_by (λ m. m == n) first + count_by (λ m. m == n) second
count_both n first second = sum_by-append (λ (m : ℕ). cond (m == n) 1 0) first second

-- a turn that is among some
has_turn : (nodes turns k n : ℕ) (order : Order) → k < turns → next_node nodes (order_after nodes k order) ≡ n
    → 1 ≤ count_by (λ m. m == n) (turns_in nodes turns order)
has_turn nodes zero k n order lt is = absurd (omega (arith, lt))
has_turn nodes (suc turns) k n order lt is = elim (cases_lt k turns) [
  | inl low ↦
      let some = has_turn nodes turns k n order low is in
      let both = count_both n (turns_in nodes turns order) (next_node nodes (order_after nodes turns order) ∷ []) in
      omega (arith, some, both)
  | inr high ↦
      let same : k ≡ turns = omega (arith, lt, high) in
      let here : next_node nodes (order_after nodes turns order) ≡ n = subst (λ (i : ℕ). next_node nodes (order_after nodes i order) ≡ n) same is in
      let last = next_node nodes (order_after nodes turns order) in
      let one : cond {A = ℕ} (last == n) 1 0 ≡ 1 = ap (λ (b : Bool). cond {A = ℕ} b 1 0) (eq-eqb last n here) in
      let alone = sum_by-cons (λ (m : ℕ). cond {A = ℕ} (m == n) 1 0) last [] in
      let both = count_both n (turns_in nodes turns order) (last ∷ []) in
      omega (arith, one, alone, both)
]

-- ---- a circle

-- the node whose turn it is in a circle, this many turns after another's
abbrev place_after : ℕ → ℕ → ℕ → ℕ
place_after nodes from k = if nat_lt (from + k) nodes then from + k else (from + k) - nodes

wrapped_below : (nodes next : ℕ) → 0 < nodes → next_node nodes (Circle next) < nodes
wrapped_below nodes next some = grind (arith, cases_lt, lt-ltb, le-ltb)

place_first : (nodes from : ℕ) → from < nodes → from ≡ place_after nodes from 0
place_first nodes from lt = grind (arith, cases_lt)

place_next : (nodes from k : ℕ) → from < nodes → suc k < nodes → next_node nodes (Circle (place_after nodes from k + 1)) ≡ place_after nodes from (suc k)
place_next nodes from k lt below = grind (arith, cases_lt)

-- an order that goes in a circle
abbrev pub IsCircle : Order → Type 0
IsCircle order = (next : ℕ) × (order ≡ Circle next)

pub circle_after : (nodes turns : ℕ) (order : Order) → IsCircle order → IsCircle (order_after nodes turns order)
circle_after nodes zero order is = is
circle_after nodes (suc turns) order is =
    let before = circle_after nodes turns order is in (next_node nodes (Circle before.0) + 1, ap (next_order nodes) before.1)

circle_place : (nodes next k : ℕ) → 0 < nodes → k < nodes
    → next_node nodes (order_after nodes k (Circle next)) ≡ place_after nodes (next_node nodes (Circle next)) k
circle_place nodes next zero some lt = place_first nodes (next_node nodes (Circle next)) (wrapped_below nodes next some)
circle_place nodes next (suc k) some lt =
    let before = circle_after nodes k (Circle next) (next, refl) in
    let here : next_node nodes (Circle before.0) ≡ place_after nodes (next_node nodes (Circle next)) k =
    ap (next_node nodes) (sym before.1) ∙ circle_place nodes next k some (omega (arith, lt)) in
    ap (λ (o : Order). next_node nodes (next_order nodes o)) before.1
    ∙ (ap (λ (i : ℕ). next_node nodes (Circle (i + 1))) here
    ∙ place_next nodes (next_node nodes (Circle next)) k (wrapped_below nodes next some) lt)

-- so each node comes
comes : (nodes from n : ℕ) → from < nodes → n < nodes → (k : ℕ) × (k < nodes) × (place_after nodes from k ≡ n)
comes nodes from n lt below = elim (cases_lt n from) [
  | inl low ↦ (nodes - from + n, omega (arith, lt, low), grind (arith, cases_lt, lt, low))
  | inr high ↦ (n - from, omega (arith, high, below), grind (arith, cases_lt, high, below))
]

pub circle_has : (nodes n : ℕ) (order : Order) → n < nodes → IsCircle order → 1 ≤ count_by (λ m. m == n) (turns_in nodes nodes order)
circle_has nodes n order below is =
    let some : 0 < nodes = omega (arith, below) in
    let from = wrapped_below nodes is.0 some in
    let at = comes nodes (next_node nodes (Circle is.0)) n from below in
    subst (λ (o : Order). 1 ≤ count_by (λ m. m == n) (turns_in nodes nodes o)) (sym is.1)
    (has_turn nodes nodes at.0 n (Circle is.0) at.1 (circle_place nodes is.0 at.0 some at.1 ∙ at.2))

circles_have : (nodes n circles : ℕ) (order : Order) → n < nodes → IsCircle order → circles ≤ count_by (λ m. m == n) (turns_in nodes (circles * nodes) order)
circles_have nodes n zero order below is = omega arith
circles_have nodes n (suc circles) order below is =
    let first = circles * nodes in
    let long : suc circles * nodes ≡ nodes + first = let more = suc-mul circles nodes in omega (arith, more) in
    let before = circles_have nodes n circles order below is in
    let one = circle_has nodes n (order_after nodes first order) below (circle_after nodes first order is) in
    let both = count_both n (turns_in nodes first order) (turns_in nodes nodes (order_after nodes first order)) in
    let all : suc circles ≤ count_by (λ m. m == n) (turns_in nodes first order ++ turns_in nodes nodes (order_after nodes first order)) =
    omega (arith, before, one, both) in
    subst (λ (k : ℕ). suc circles ≤ count_by (λ m. m == n) (turns_in nodes k order)) (sym long)
    (subst (λ (ns : List ℕ). suc circles ≤ count_by (λ m. m == n) ns) (sym (turns_both nodes nodes first (nodes + first) order refl)) all)

pub circle_gives : (nodes : ℕ) → GivesTurns nodes (64 * nodes) (first_order None)
circle_gives nodes start n below =
    circles_have nodes n 64 (order_after nodes start (Circle 0)) below (circle_after nodes start (Circle 0) (0, refl))
