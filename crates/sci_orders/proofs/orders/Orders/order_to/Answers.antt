-- The outcome is found after two steps of each operation.
use Rattle.std.proofs.Common.{List, sym, subst, arith}
use Rattle.std.specs.{Prelude.{Vec}, declared.alloc.Global.{Global}}
use Rattle.sci_orders.proofs.Finding.{reached_found}
use Rattle.sci_orders.specs.{Positions.{lists_of}, Ways.{AreLevels, levels_of}, declared.standing.Standing.{Standing}}
use Rattle.sci_orders.proofs.orders.Orders.order_to.Goals as goal

pub order_through-requires-clause-levels : goal.order_through-requires-clause-levels
order_through-requires-clause-levels c =
    subst (λ (levels : List (Vec Standing Global)). AreLevels c.args.extent.lines (lists_of c.args.self.now.operations.now) c.args.self.now.window
    (levels_of levels)) (sym c.deref.ensures.value) c.in_ok-levels.ensures.levels

pub order_through-requires-clause-reached : goal.order_through-requires-clause-reached
order_through-requires-clause-reached c = grind (arith, reached_found)
