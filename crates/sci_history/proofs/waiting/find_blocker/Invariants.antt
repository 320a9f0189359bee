use Rattle.std.proofs.Common.{◌≡◌, ◌<◌, ℕ, None}
use Rattle.std.specs.List.{AllByRecursion}
use Rattle.sci_history.specs.{Placed.{log_of}, Placing.{line_reason, rests_of}}
use Rattle.sci_history.proofs.waiting.find_blocker.Given as goal

-- none of the nodes so far has one
abbrev pub invariant-loop-node : goal.invariant-loop-node
invariant-loop-node l = (m : ℕ) → m < l.node → AllByRecursion (λ other. line_reason l.entry other ≡ None) (log_of (rests_of l.logs l.next) m)
