use Rattle.std.proofs.Common.{◌≡◌, ◌++◌, take}
use Rattle.std.specs.List.{flat_map}
use Rattle.sci_allowed.specs.OutcomeText.{replied_text}
use Rattle.sci_allowed.proofs.outcome_text.push_replies.Given as goal

-- the replies so far
abbrev pub invariant-loop-replied : goal.invariant-loop-replied
invariant-loop-replied l = l.out.items ≡ l.fn.out.items ++ flat_map replied_text (take l.replied-index l.replies)
