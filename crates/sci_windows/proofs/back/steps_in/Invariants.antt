use Rattle.std.proofs.Common.{◌≡◌, map, take}
use Rattle.sci_windows.specs.Order.{step_in}
use Rattle.sci_windows.proofs.back.steps_in.Given as goal

-- the steps so far
abbrev pub invariant-loop-step : goal.invariant-loop-step
invariant-loop-step l = l.made.items ≡ map (step_in l.logs) (take l.step-index l.steps)
