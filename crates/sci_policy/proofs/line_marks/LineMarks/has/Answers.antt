use Rattle.std.proofs.Common.{List, Bool, ap, ◌∙◌}
use Rattle.sci_policy.specs.Policy.{has}
use Rattle.sci_policy.proofs.Marks.{has_bit}
use Rattle.sci_policy.proofs.line_marks.LineMarks.has.Goals as goal

pub returns : goal.returns
returns c =
    has_bit c.self.inside.set c.args.line c.contains.result c.contains.ensures.inside c.contains.ensures.small
    ∙ ap (λ (marks : List Bool). has marks c.args.line) c.self.view_is
