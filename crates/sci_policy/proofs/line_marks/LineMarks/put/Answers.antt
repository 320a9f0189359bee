use Rattle.std.proofs.Common.{Bool, List, set, ap, ◌∙◌}
use Rattle.sci_policy.proofs.Marks.{put_in}
use Rattle.sci_policy.proofs.line_marks.LineMarks.put.Goals as goal

pub returns-then-line-lt-MAX_LINES : goal.returns-then-line-lt-MAX_LINES
returns-then-line-lt-MAX_LINES c =
    put_in c.self.inside.set c.put.new.self c.args.line c.args.is_in c.if-line-lt-MAX_LINES.true c.put.ensures.here c.put.ensures.others
    ∙ ap (λ (marks : List Bool). set marks c.args.line c.args.is_in) c.self.view_is
