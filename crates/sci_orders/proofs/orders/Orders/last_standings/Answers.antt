-- Two levels more for each operation.
use Rattle.std.proofs.Common.{◌≡◌, ◌+◌, ◌*◌, ℕ, List, length, map, take, sym, ap, subst, ◌∙◌, arith}
use Rattle.std.proofs.Math.Seq.{take-length}
use Rattle.std.proofs.lemmas.List.{length-map}
use Rattle.sci_words.specs.declared.operation.Op.{Op}
use Rattle.sci_orders.specs.declared.standing.Standing.{Standing}
use Rattle.sci_orders.proofs.{Copies.{one_node_more}, Finding.{ends_found}}
use Rattle.sci_orders.specs.{Eager.{AreFoundIn}, Positions.{lists_of, operation_count, position_of}}
use Rattle.sci_orders.proofs.orders.Orders.last_standings.Goals as goal

pub loop-operation-preserved : goal.loop-operation-preserved
loop-operation-preserved c =
    let operations = lists_of c.args.self.now.operations.now in
    let before = operation_count (take c.loop-own.own-index operations) in
    let index = c.loop-operation._operation-index in
    let so = c.in_ok-level-2.ensures.found ((before + index) * 2)
    (subst (λ (ss : List Standing). AreFoundIn c.args.lines operations c.args.self.now.window ((before + index) * 2) (map position_of ss))
    (sym c.deref.ensures.value) c.loop-operation.invariant.reached) in
    let further : (before + index) * 2 + 2 ≡ (before + (index + 1)) * 2 = omega arith in
    record {
      reached = subst (λ (n : ℕ). AreFoundIn c.args.lines operations c.args.self.now.window n (map position_of c.in_ok-level-2.field-0.1.items)) further so.1;
      once = c.in_ok-level-2.ensures.once;
    }

pub loop-own-preserved : goal.loop-own-preserved
loop-own-preserved c =
    let operations = lists_of c.args.self.now.operations.now in
    let k = c.loop-own.own-index in
    let index = c.loop-operation._operation-index in
    let more = one_node_more c.args.self.now.operations.now k c.own-item.result c.loop-own-test.true c.own-item.is in
    let same : length c.deref-operation-items.result.now ≡ length c.own-item.result.items =
    ap (λ (ops : List Op). length ops) c.deref-operation-items.ensures.value in
    let whole : (operation_count (take k operations) + index) * 2 ≡ operation_count (take (k + 1) operations) * 2 = omega arith in
    record {
      reached = subst (λ (n : ℕ). AreFoundIn c.args.lines operations c.args.self.now.window n (map position_of c.loop-operation.level.items)) whole
          c.loop-operation.invariant.reached;
      once = c.loop-operation.invariant.once;
    }

pub returns-clause-reached : goal.returns-clause-reached
returns-clause-reached c =
    let operations = lists_of c.args.self.now.operations.now in
    let long = length-map c.args.self.now.operations.now (λ (v : _). v.items) in
    let whole : c.loop-own.own-index ≡ length operations = (let end = c.loop-own-test.false in omega arith) in
    let all : operation_count (take c.loop-own.own-index operations) * 2 ≡ operation_count operations * 2 =
    ap (λ (k : ℕ). operation_count (take k operations) * 2) whole ∙ ap (λ (ops : _). operation_count ops * 2) (take-length operations) in
    ends_found c.args.lines operations c.args.self.now.window (map position_of c.loop-own.level.items) c.requires
    (subst (λ (n : ℕ). AreFoundIn c.args.lines operations c.args.self.now.window n (map position_of c.loop-own.level.items)) all c.loop-own.invariant.reached)
