-- A level for each number of steps so far, and the next one.
use Rattle.std.proofs.Common.{◌≡◌, ◌*◌, ◌+◌, length, map, take}
use Rattle.sci_orders.specs.{Eager.{AreFoundIn}, Positions.{lists_of, operation_count, position_of}, Ways.{AreLevels, levels_of}}
use Rattle.sci_orders.proofs.orders.Orders.levels.Given as goal

abbrev pub invariant-loop-own : goal.invariant-loop-own
invariant-loop-own l = record {
  levels : AreLevels l.lines (lists_of l.self.operations.now) l.self.window (levels_of l.levels.items);
  long : length l.levels.items ≡ operation_count (take l.own-index (lists_of l.self.operations.now)) * 2;
  level : AreFoundIn l.lines (lists_of l.self.operations.now) l.self.window
      (operation_count (take l.own-index (lists_of l.self.operations.now)) * 2) (map position_of l.level.items);
}

abbrev pub invariant-loop-operation : goal.invariant-loop-operation
invariant-loop-operation l = record {
  levels : AreLevels l.lines (lists_of l.self.operations.now) l.self.window (levels_of l.levels.items);
  long : length l.levels.items ≡ (operation_count (take l.own-index (lists_of l.self.operations.now)) + l._operation-index) * 2;
  level : AreFoundIn l.lines (lists_of l.self.operations.now) l.self.window
      ((operation_count (take l.own-index (lists_of l.self.operations.now)) + l._operation-index) * 2) (map position_of l.level.items);
}
