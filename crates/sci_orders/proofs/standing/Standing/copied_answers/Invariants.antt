-- The answers of the nodes so far were copied.
use Rattle.std.proofs.Common.{◌≡◌, take}
use Rattle.sci_orders.specs.Positions.{lists_of}
use Rattle.sci_orders.proofs.standing.Standing.copied_answers.Given as goal

abbrev pub invariant-loop-own : goal.invariant-loop-own
invariant-loop-own l = lists_of l.copied.items ≡ lists_of (take l.own-index l.self.answers.items)
