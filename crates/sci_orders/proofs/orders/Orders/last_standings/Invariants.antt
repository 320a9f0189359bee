-- Two steps for each operation so far were taken.
use Rattle.std.proofs.Common.{◌*◌, ◌+◌, map, take}
use Rattle.sci_orders.specs.{Eager.{AreFoundIn}, Positions.{AreOnce, lists_of, operation_count, position_of}}
use Rattle.sci_orders.proofs.orders.Orders.last_standings.Given as goal

abbrev pub invariant-loop-own : goal.invariant-loop-own
invariant-loop-own l = record {
  reached : AreFoundIn l.lines (lists_of l.self.operations.now) l.self.window
      (operation_count (take l.own-index (lists_of l.self.operations.now)) * 2) (map position_of l.level.items);
  once : AreOnce (map position_of l.level.items);
}

abbrev pub invariant-loop-operation : goal.invariant-loop-operation
invariant-loop-operation l = record {
  reached : AreFoundIn l.lines (lists_of l.self.operations.now) l.self.window
      ((operation_count (take l.own-index (lists_of l.self.operations.now)) + l._operation-index) * 2) (map position_of l.level.items);
  once : AreOnce (map position_of l.level.items);
}
