use Rattle.sci_c.proofs.HomesTold.{IsMade}
use Rattle.sci_c.proofs.starting.started.Given as goal

-- the homes of the lines so far are told, and the others untouched
abbrev pub invariant-loop-line : goal.invariant-loop-line
invariant-loop-line l = IsMade l.node l.limit l.fresh l.line
