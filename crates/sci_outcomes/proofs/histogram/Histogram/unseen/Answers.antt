use Rattle.std.proofs.Common.{sym, ◌∙◌}
use Rattle.sci_outcomes.proofs.Histograms.{unseen_kept}
use Rattle.sci_outcomes.proofs.histogram.Histogram.unseen.Goals as goal

pub loop-row-preserved : goal.loop-row-preserved
loop-row-preserved c = λ seen counted.
    c.loop-row.invariant seen counted
    ∙ sym (unseen_kept seen c.loop-row.yielded c.in-Some.row (sym (c.has.ensures seen counted) ∙ c.if-not-has.false))
