use Rattle.sci_policy.proofs.Marks.{none_in}
use Rattle.sci_policy.proofs.line_marks.LineMarks.new.Goals as goal

pub returns : goal.returns
returns c = none_in c.new.result c.new.ensures
