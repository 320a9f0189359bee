use Rattle.std.proofs.Common.{List, Bool, ◌||◌, sym, ap, ◌∙◌}
use Rattle.sci_cache.specs.LineSet.{is_in}
use Rattle.sci_policy.specs.Policy.{has}
use Rattle.sci_policy.proofs.Marks.{in_set, set_same}
use Rattle.sci_policy.proofs.line_marks.LineMarks.union.Goals as goal

pub returns : goal.returns
returns c = set_same _ _ (λ line small. c.union.ensures line ∙ ap (λ (b : Bool). b || is_in c.args.other line)
    (sym (in_set (is_in c.self.inside.set) line small) ∙ ap (λ (marks : List Bool). has marks line) c.self.view_is))
