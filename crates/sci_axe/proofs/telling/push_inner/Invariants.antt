use Rattle.std.proofs.Common.{◌≡◌, ◌++◌, take}
use Rattle.std.specs.List.{flat_map}
use Rattle.sci_axe.specs.Telling.{inner_text}
use Rattle.sci_axe.proofs.telling.push_inner.Given as goal

-- the lines of the steps so far
abbrev pub invariant-loop-step : goal.invariant-loop-step
invariant-loop-step l = l.out.items ≡ l.fn.out.items ++ flat_map (inner_text l.accesses) (take l.step-index l.steps)
