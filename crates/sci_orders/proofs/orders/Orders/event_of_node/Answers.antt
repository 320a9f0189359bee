-- The operation is one of the node.
use Rattle.std.proofs.Common.{ℕ, List, length, get_or, ap, ◌∙◌, arith}
use Rattle.std.specs.{Prelude.{Vec}, Vec.{vec_len}, declared.alloc.Global.{Global}}
use Rattle.sci_words.specs.declared.operation.Op.{Op}
use Rattle.sci_orders.proofs.Copies.{own_is}
use Rattle.sci_orders.proofs.orders.Orders.event_of_node.Goals as goal

pub returns-then-branch-clause-some : goal.returns-then-branch-clause-some
returns-then-branch-clause-some c =
    let own = ap (λ (ops : List Op). length ops)
    (own_is c.args.self.now.operations.now c.args.node c.index-self-from.result c.requires.node
    (c.index-self-from.is ∙ ap (λ (n : ℕ). get_or c.args.self.now.operations.now n c.index-self-from.result) c.from.ensures)) in
    let low = c.loop-place-test.true in
    let end = c.len-place-end.ensures in
    let same = ap (λ (v : Vec Op Global). vec_len v) c.index-self-from.is in
    record {
      taken = record { node = c.args.node; place = c.loop-place.place; below = omega arith; step = c.in_ok-leads.ensures.0 c.if-branch.true };
      is = c.event_at.ensures;
    }
