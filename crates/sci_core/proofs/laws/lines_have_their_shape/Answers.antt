use Rattle.sci_core.proofs.ReachedLaws.{any_shapes}
use Rattle.sci_core.proofs.laws.lines_have_their_shape.Goals as goal

pub returns : goal.returns
returns c = any_shapes
