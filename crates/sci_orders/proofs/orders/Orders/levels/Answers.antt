-- Two levels more for each operation.
use Rattle.std.proofs.Common.{◌≡◌, ◌+◌, ◌*◌, ◌∷◌, ℕ, List, [], length, length-append, map, take, sym, ap, subst, ◌∙◌, arith}
use Rattle.std.specs.{Prelude.{Vec}, declared.alloc.Global.{Global}}
use Rattle.sci_orders.specs.declared.standing.Standing.{Standing}
use Rattle.sci_words.specs.declared.operation.Op.{Op}
use Rattle.sci_orders.proofs.{Copies.{one_node_more}, Ways.{levels_more}}
use Rattle.sci_orders.specs.{Eager.{AreFoundIn}, Positions.{lists_of, operation_count, position_of}}
use Rattle.sci_orders.proofs.orders.Orders.levels.Goals as goal

pub loop-operation-preserved : goal.loop-operation-preserved
loop-operation-preserved c =
    let operations = lists_of c.args.self.now.operations.now in
    let before = operation_count (take c.loop-own.own-index operations) in
    let index = c.loop-operation._operation-index in
    let so = c.in_ok-half.ensures.found ((before + index) * 2)
    (subst (λ (ss : List Standing). AreFoundIn c.args.lines operations c.args.self.now.window ((before + index) * 2) (map position_of ss))
    (sym c.deref.ensures.value) c.loop-operation.invariant.level) in
    let further : (before + index) * 2 + 2 ≡ (before + (index + 1)) * 2 = omega arith in
    let old = c.loop-operation.levels.items in
    let added = c.in_ok-push_both.ensures in
    let were = c.loop-operation.invariant.long in
    let more = length-append old (c.loop-operation.level ∷ c.in_ok-half.half ∷ []) in
    let all = ap (λ (ls : List (Vec Standing Global)). length ls) added in
    record {
      levels = levels_more c.args.lines operations c.args.self.now.window ((before + index) * 2) old c.push_both.new.levels.items
          c.loop-operation.level c.in_ok-half.half (sym were) added c.loop-operation.invariant.levels c.loop-operation.invariant.level so.0;
      long = omega arith;
      level = subst (λ (n : ℕ). AreFoundIn c.args.lines operations c.args.self.now.window n (map position_of c.in_ok-half.next.items)) further so.1;
    }

pub loop-own-preserved : goal.loop-own-preserved
loop-own-preserved c =
    let operations = lists_of c.args.self.now.operations.now in
    let k = c.loop-own.own-index in
    let index = c.loop-operation._operation-index in
    let more = one_node_more c.args.self.now.operations.now k c.own-item.result c.loop-own-test.true c.own-item.is in
    let same : length c.deref-operation-items.result.now ≡ length c.own-item.result.items =
    ap (λ (ops : List Op). length ops) c.deref-operation-items.ensures.value in
    let whole : (operation_count (take k operations) + index) * 2 ≡ operation_count (take (k + 1) operations) * 2 = omega arith in
    record {
      levels = c.loop-operation.invariant.levels;
      long = c.loop-operation.invariant.long ∙ whole;
      level = subst (λ (n : ℕ). AreFoundIn c.args.lines operations c.args.self.now.window n (map position_of c.loop-operation.level.items)) whole
          c.loop-operation.invariant.level;
    }
