use Rattle.std.proofs.{Common.{◌∙◌}, lemmas.Result.{on_ok_weaker}}
use Rattle.sci_statistics.specs.StatsAnswer.{line_text}
use Rattle.sci_command.proofs.Joined.{joined}
use Rattle.sci_statistics.proofs.figures.push_line.Goals as goal

pub returns : goal.returns
unfolding line_text
returns c =
    let group = c.deref.ensures.value ∙ c.in_ok-group.ensures in
    let again = c.deref-2.ensures.value ∙ c.in_ok-group.ensures in
    on_ok_weaker c.push_mean.result
    (λ mean. joined c.args.out.now.items _ _ _ _ (rw (group, c.line_rows.ensures) at c.in_ok-push_figures.ensures) (rw again at mean))
    c.push_mean.ensures
