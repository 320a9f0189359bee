use Rattle.std.proofs.Common.{ℕ, ◌<◌}
use Rattle.sci_history.specs.{Memory.{stamped_at}, Lawful.{IsLawfulLine}}
use Rattle.sci_history.proofs.auditing.audit.Given as goal

-- the lines so far are lawful
abbrev pub invariant-loop-line : goal.invariant-loop-line
invariant-loop-line l = (other : ℕ) → other < l.line → IsLawfulLine l.logs other (stamped_at l.last other)
