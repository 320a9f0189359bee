-- As many nodes and words are there as were passed.
use Rattle.std.proofs.Common.{◌≡◌, [], replicate}
use Rattle.sci_orders.specs.Positions.{lists_of}
use Rattle.sci_orders.proofs.standing.Standing.opening.Given as goal

abbrev pub invariant-loop-own : goal.invariant-loop-own
invariant-loop-own l = lists_of l.answers.items ≡ replicate l._own-index []

abbrev pub invariant-loop-word : goal.invariant-loop-word
invariant-loop-word l = l.words.items ≡ replicate l._word 0
