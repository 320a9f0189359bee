use Rattle.std.proofs.Common.{◌≡◌, take}
use Rattle.sci_outcomes.specs.Outcomes.{replies_in}
use Rattle.sci_outcomes.proofs.outcome.replies_of.Given as goal

-- the logs so far
abbrev pub invariant-loop-node : goal.invariant-loop-node
invariant-loop-node l = l.replies.items ≡ replies_in (take l.node l.logs)
