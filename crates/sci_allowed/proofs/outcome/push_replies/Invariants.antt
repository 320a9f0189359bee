use Rattle.std.proofs.Common.{◌≡◌, ◌++◌}
use Rattle.std.specs.{List.{filter_map, range_with_len}, Prelude.{slice_index_or}}
use Rattle.sci_orders.specs.declared.standing.Answer.TheVariants.{Stored}
use Rattle.sci_allowed.specs.Outcome.{replied_at}
use Rattle.sci_allowed.proofs.outcome.push_replies.Given as goal

-- the operations so far
abbrev pub invariant-loop-serial : goal.invariant-loop-serial
invariant-loop-serial l =
    l.replies.items ≡ l.fn.replies.items ++ filter_map (λ i. replied_at l.node i (slice_index_or l.answers i Stored)) (range_with_len 0 l.serial)
