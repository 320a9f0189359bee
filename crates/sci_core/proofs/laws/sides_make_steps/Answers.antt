use Rattle.sci_core.proofs.Step.Sides.{steps_by_sides}
use Rattle.sci_core.proofs.laws.sides_make_steps.Goals as goal

pub returns : goal.returns
returns c = steps_by_sides
