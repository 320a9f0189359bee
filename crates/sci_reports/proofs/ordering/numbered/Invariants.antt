use Rattle.std.proofs.Common.{take}
use Rattle.sci_reports.specs.OrderAnswer.{AreNumbered}
use Rattle.sci_reports.proofs.ordering.numbered.Given as goal

-- the entries so far
abbrev pub invariant-loop-step : goal.invariant-loop-step
invariant-loop-step l = AreNumbered l.before l.logs (take l.step-index l.steps) l.numbered.items
