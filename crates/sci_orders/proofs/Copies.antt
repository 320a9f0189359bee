-- One of a list of lists is changed.
use Rattle.std.proofs.Common.{◌≡◌, ℕ, ◌+◌, ◌<◌, List, [], length, set, take, get_or, sym, ap, ◌∙◌, arith}
use Rattle.std.proofs.lemmas.List.{get_or-map, length-map, map-set, Sums.{sum_by_more}}
use Rattle.std.specs.Prelude.{Vec}
use Rattle.sci_words.specs.declared.operation.Op.{Op}
use Rattle.sci_orders.specs.Positions.{lists_of, operation_count}

abbrev items_of : {X Z : Type 0} → Vec X Z → List X
items_of vec = vec.items

pub own_is : {X Z : Type 0} (vecs : List (Vec X Z)) (n : ℕ) (own : Vec X Z) → n < length vecs → own ≡ get_or vecs n own
    → get_or (lists_of vecs) n [] ≡ own.items
own_is vecs n own lt is = get_or-map items_of vecs n own [] lt ∙ ap items_of (sym is)

-- the operations of one node more
pub one_node_more : {Z : Type 0} (vecs : List (Vec Op Z)) (n : ℕ) (own : Vec Op Z) → n < length vecs → own ≡ get_or vecs n own
    → operation_count (take (n + 1) (lists_of vecs)) ≡ operation_count (take n (lists_of vecs)) + length own.items
one_node_more vecs n own lt is = grind (arith, length-map, own_is, sum_by_more (λ (ops : List Op). length ops) (lists_of vecs) n [])

pub list_changed : {X Z : Type 0} (old copied : List (Vec X Z)) (n : ℕ) (own new : Vec X Z) (f : List X → List X) → lists_of copied ≡ lists_of old
    → n < length old → own ≡ get_or copied n own → new.items ≡ f own.items
    → lists_of (set copied n new) ≡ set (lists_of old) n (f (get_or (lists_of old) n []))
list_changed {X = X} old copied n own new f same lt is then_ = grind (arith, length-map, map-set, own_is)
