use Rattle.std.proofs.Common.{◌≡◌, take}
use Rattle.std.specs.List.{flat_map}
use Rattle.sci_c_traces.specs.Judgement.{step_places}
use Rattle.sci_c_traces.proofs.judgement.circle_places.Given as goal

-- those of the steps so far
abbrev pub invariant-loop-step : goal.invariant-loop-step
invariant-loop-step l = l.places.items ≡ flat_map step_places (take l.step-index l.steps)
