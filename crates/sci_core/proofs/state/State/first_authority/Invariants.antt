use Rattle.std.proofs.Common.{◌≡◌, ◌<◌, ℕ, None}
use Rattle.sci_core.specs.Sharing.{settled_at}
use Rattle.sci_cache.specs.Member.{contents_held}
use Rattle.sci_core.proofs.state.State.first_authority.Given as goal

-- none of the nodes so far is one
abbrev pub invariant-loop-n : goal.invariant-loop-n
invariant-loop-n l = (m : ℕ) → m < l.n → contents_held (settled_at l.self l.line m) ≡ None
