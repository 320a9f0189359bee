-- Each node is looked at.
use Rattle.std.proofs.Common.{◌≡◌, ◌&&◌, ◌||◌, ◌+◌, ◌<◌, not, ℕ, Bool, true, false, List, [], length, get_or, refl, sym, ap, ◌∙◌, arith}
use Rattle.std.proofs.lemmas.{Bool.{cases_eq}, List.{get_or-map, length-map}}
use Rattle.std.specs.{List.{list_any, range_with_len}, Prelude.{Vec}, declared.alloc.Global.{Global}}
use Rattle.sci_words.specs.declared.operation.Op.{Op}
use Rattle.sci_orders.proofs.{Copies.{own_is}, Places.{all_pass, any_found, any_next, one_fails}}
use Rattle.sci_orders.proofs.orders.Orders.is_closed.Goals.{After-has_waiting, then-has_waiting, else-has_waiting+else-has_to_come}
use Rattle.sci_orders.specs.{Eager.{has_to_come, has_waiting, is_held}, Positions.{answers_of, lists_of, own_of, position_of}}
use Rattle.sci_orders.specs.declared.standing.{Answer.{Answer}, Standing.{Standing}}
use Rattle.sci_orders.proofs.orders.Orders.is_closed.Goals as goal

and_false : (b : Bool) → (b && false) ≡ false
and_false true = refl
and_false false = refl

and_true : (b : Bool) → (b && true) ≡ b
and_true true = refl
and_true false = refl

or_false : (b : Bool) → (b || false) ≡ b
or_false true = refl
or_false false = refl

-- the operations of a node, and what they have come to
own_here : (vecs : List (Vec Op Global)) (n : ℕ) (vec : Vec Op Global) (own : List Op) → n < length vecs → own ≡ (get_or vecs n vec).items
    → own ≡ own_of (lists_of vecs) n
own_here vecs n vec own lt is = is ∙ sym (get_or-map (λ (v : Vec Op Global). v.items) vecs n vec [] lt)

answers_here : (standing : Standing) (operations n : ℕ) (vec : Vec Answer Global) (as_ : List Answer) → length (position_of standing).answers ≡ operations
    → n < operations → vec ≡ get_or standing.answers.items n vec → as_ ≡ vec.items → as_ ≡ answers_of (position_of standing) n
answers_here standing operations n vec as_ nodes lt at is = grind (arith, length-map, own_is)

nodes_below : (vecs : List (Vec Op Global)) (n : ℕ) → n < length vecs → n < length (lists_of vecs)
nodes_below vecs n lt = let long = length-map vecs (λ (v : Vec Op Global). v.items) in omega (arith, long, lt)

pub has_waiting-requires : goal.has_waiting-requires
has_waiting-requires c =
    let n = c.loop-n.n in
    let vecs = c.args.self.now.operations.now in
    let lt = c.loop-n-test.true in
    let own = ap (λ (ops : List Op). length ops) (own_here vecs n c.index-self-n.result c.deref.result.now lt c.deref.ensures.value) in
    let answers = ap (λ (as_ : List Answer). length as_)
    (answers_here c.args.standing.now (length (lists_of vecs)) n c.index-answers.result.now c.deref-in-loop-n.result.now c.requires.nodes
    (nodes_below vecs n lt) c.index-answers.ensures c.deref-in-loop-n.ensures.value) in
    let issued = c.requires.issued n in
    omega (arith, own, answers, issued)

-- whether an operation of the node waits there
waiting : (c : After-has_waiting) → c.has_waiting.result ≡ has_waiting (own_of (lists_of c.args.self.now.operations.now) c.loop-n.n)
    (answers_of (position_of c.args.standing.now) c.loop-n.n) c.args.line
waiting c =
    let n = c.loop-n.n in
    let vecs = c.args.self.now.operations.now in
    let lt = c.loop-n-test.true in
    let own = own_here vecs n c.index-self-n.result c.deref.result.now lt c.deref.ensures.value in
    let answers = answers_here c.args.standing.now (length (lists_of vecs)) n c.index-answers.result.now c.deref-in-loop-n.result.now c.requires.nodes
    (nodes_below vecs n lt) c.index-answers.ensures c.deref-in-loop-n.ensures.value in
    c.has_waiting.ensures ∙ (ap (λ (ops : List Op). has_waiting ops c.deref-in-loop-n.result.now c.args.line) own
    ∙ ap (λ (as_ : List Answer). has_waiting (own_of (lists_of vecs) n) as_ c.args.line) answers)

-- whether one is still to come there
coming : (c : After-has_waiting) (come : Bool) (own : List Op) (issued : ℕ) → come ≡ has_to_come own issued c.args.line
    → own ≡ (get_or c.args.self.now.operations.now c.loop-n.n c.index-self-n.result).items → issued ≡ length c.index-answers.result.now.items
    → come ≡ has_to_come (own_of (lists_of c.args.self.now.operations.now) c.loop-n.n) (length (answers_of (position_of c.args.standing.now) c.loop-n.n))
    c.args.line
coming c come own issued is at long =
    let n = c.loop-n.n in
    let vecs = c.args.self.now.operations.now in
    let lt = c.loop-n-test.true in
    let mine = own_here vecs n c.index-self-n.result own lt at in
    let answers : c.index-answers.result.now.items ≡ answers_of (position_of c.args.standing.now) n =
    answers_here c.args.standing.now (length (lists_of vecs)) n c.index-answers.result.now c.index-answers.result.now.items c.requires.nodes
    (nodes_below vecs n lt) c.index-answers.ensures refl in
    is ∙ (ap (λ (ops : List Op). has_to_come ops issued c.args.line) mine
    ∙ ap (λ (k : ℕ). has_to_come (own_of (lists_of vecs) n) k c.args.line) (long ∙ ap (λ (as_ : List Answer). length as_) answers))

held_if : (waits come held : Bool) → held ≡ (waits || not come) → come ≡ false → held ≡ true
held_if true come held is none = is
held_if false come held is none = is ∙ ap not none

open_if : (waits come held : Bool) → held ≡ (waits || not come) → waits ≡ false → come ≡ true → held ≡ false
open_if waits come held is none some = is ∙ (ap (λ (b : Bool). b || not come) none ∙ ap not some)

pub returns-then-has_to_come : goal.returns-then-has_to_come
returns-then-has_to_come c =
    let at = (goal.at.returns-then-has_to_come c).After-has_waiting in
    let operations = lists_of c.args.self.now.operations.now in
    let p = position_of c.args.standing.now in
    let n = c.loop-n.n in
    let test = λ (n : ℕ). has_waiting (own_of operations n) (answers_of p n) c.args.line in
    let held = λ (n : ℕ). is_held (own_of operations n) (answers_of p n) c.args.line in
    let come = coming at c.has_to_come.result c.deref-else-has_waiting.result.now c.len.result c.has_to_come.ensures c.deref-else-has_waiting.ensures.value
    (let there = c.len.ensures in omega arith) in
    let none : held n ≡ false =
    open_if (test n) (has_to_come (own_of operations n) (length (answers_of p n)) c.args.line) (held n) refl (sym (waiting at) ∙ c.if-has_waiting.false)
    (sym come ∙ c.if-has_to_come.true) in
    let fails = one_fails held (length operations) n (nodes_below c.args.self.now.operations.now n c.loop-n-test.true) none in
    sym (ap (λ (b : Bool). list_any test (range_with_len 0 (length operations)) && b) fails ∙ and_false (list_any test (range_with_len 0 (length operations))))

-- one node more is held
held_more : (held : ℕ → Bool) (n : ℕ) → ((m : ℕ) → m < n → held m ≡ true) → held n ≡ true → (m : ℕ) → m < n + 1 → held m ≡ true
held_more held n before here m low = grind (arith, cases_eq)

pub loop-n-preserved : goal.loop-n-preserved
loop-n-preserved c =
    let at = (goal.at.loop-n-preserved c).After-has_waiting in
    let operations = lists_of c.args.self.now.operations.now in
    let p = position_of c.args.standing.now in
    let n = c.loop-n.n in
    let test = λ (n : ℕ). has_waiting (own_of operations n) (answers_of p n) c.args.line in
    let held = λ (n : ℕ). is_held (own_of operations n) (answers_of p n) c.args.line in
    elim c.if-has_waiting.branch [
      | then-has_waiting w ↦
          let here : test n ≡ true = sym (waiting at) ∙ w.if-has_waiting.true in
          let holds : held n ≡ true = ap (λ (b : Bool). b || not (has_to_come (own_of operations n) (length (answers_of p n)) c.args.line)) here in
          record {
            waits = w.waits-is ∙ sym (any_found test (n + 1) n (omega arith) here);
            held = held_more held n c.loop-n.invariant.held holds;
          }
      | else-has_waiting+else-has_to_come w ↦
          let none : test n ≡ false = sym (waiting at) ∙ w.if-has_waiting.false in
          let come = coming at w.has_to_come.result w.deref-else-has_waiting.result.now w.len.result w.has_to_come.ensures
          w.deref-else-has_waiting.ensures.value (let there = w.len.ensures in omega arith) in
          let holds : held n ≡ true =
          held_if (test n) (has_to_come (own_of operations n) (length (answers_of p n)) c.args.line) (held n) refl (sym come ∙ w.if-has_to_come.false) in
          record {
            waits = w.waits-is ∙ (c.loop-n.invariant.waits
                ∙ sym (any_next test n ∙ (ap (λ (b : Bool). list_any test (range_with_len 0 n) || b) none ∙ or_false (list_any test (range_with_len 0 n)))));
            held = held_more held n c.loop-n.invariant.held holds;
          }
    ]

pub returns : goal.returns
returns c = grind (arith, length-map, all_pass, and_true)
