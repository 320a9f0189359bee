use Rattle.std.proofs.Common.{take}
use Rattle.std.specs.List.{flat_map}
use Rattle.sci_json.specs.Members.{Adds}
use Rattle.sci_reports.specs.OrderJson.{step_object}
use Rattle.sci_reports.proofs.order_json.write_steps.Given as goal

-- the entries so far
abbrev pub invariant-loop-step : goal.invariant-loop-step
invariant-loop-step l = Adds l.fn.out l.out (flat_map (step_object l.keeps) (take l.step-index l.steps))
