-- Each of the nodes so far is held, and some of them has an operation that waits on the line, or none has.
use Rattle.std.proofs.Common.{◌≡◌, ◌<◌, ℕ, true}
use Rattle.std.specs.List.{list_any, range_with_len}
use Rattle.sci_orders.specs.{Eager.{has_waiting, is_held}, Positions.{answers_of, lists_of, own_of, position_of}}
use Rattle.sci_orders.proofs.orders.Orders.is_closed.Given as goal

abbrev pub invariant-loop-n : goal.invariant-loop-n
invariant-loop-n l =
    let operations = lists_of l.self.operations.now in
    let p = position_of l.standing in
    record {
      waits : l.waits ≡ list_any (λ n. has_waiting (own_of operations n) (answers_of p n) l.line) (range_with_len 0 l.n);
      held : (m : ℕ) → m < l.n → is_held (own_of operations m) (answers_of p m) l.line ≡ true;
    }
