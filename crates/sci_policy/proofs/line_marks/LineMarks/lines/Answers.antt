use Rattle.std.proofs.Common.{List, Bool, sym, ap, ◌∙◌}
use Rattle.sci_cache.specs.LineSet.{is_in}
use Rattle.sci_policy.specs.Policy.{has}
use Rattle.sci_policy.proofs.Marks.{in_set}
use Rattle.sci_policy.proofs.line_marks.LineMarks.lines.Goals as goal

pub returns : goal.returns
returns c = λ line small. sym (in_set (is_in c.self.inside.set) line small) ∙ ap (λ (marks : List Bool). has marks line) c.self.view_is
