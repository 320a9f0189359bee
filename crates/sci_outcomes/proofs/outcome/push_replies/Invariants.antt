use Rattle.std.proofs.Common.{◌≡◌, ◌++◌, take}
use Rattle.std.specs.List.{filter_map}
use Rattle.sci_outcomes.specs.Outcomes.{replied}
use Rattle.sci_outcomes.proofs.outcome.push_replies.Given as goal

-- the entries so far
abbrev pub invariant-loop-entry : goal.invariant-loop-entry
invariant-loop-entry l = l.replies.items ≡ l.fn.replies.items ++ filter_map replied (take l.entry-index l.log)
