-- No node so far is the authority.
use Rattle.std.proofs.Common.{◌≡◌, take, None}
use Rattle.sci_core.specs.Sharing.{all_settled, first_authority}
use Rattle.sci_core.proofs.state.State.last_at.Given as goal

abbrev pub invariant-loop-n : goal.invariant-loop-n
invariant-loop-n l = first_authority (take l.n (all_settled l.self l.line)) ≡ None
