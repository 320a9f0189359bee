use Rattle.std.proofs.Common.{◌≡◌, ◌<◌, ℕ, None}
use Rattle.sci_core.proofs.Tidy.{Seeking.{seek}, Answering.{sent_from}}
use Rattle.sci_core.proofs.state.State.answer_from_any.Given as goal

-- no node so far has one
abbrev pub invariant-loop-from : goal.invariant-loop-from
invariant-loop-from l = (k : ℕ) → k < l.from → seek l.n l.line (sent_from l.self k l.n) ≡ None
