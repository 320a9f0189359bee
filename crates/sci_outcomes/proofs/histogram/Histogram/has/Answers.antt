use Rattle.std.proofs.Common.{◌∙◌}
use Rattle.sci_outcomes.proofs.Histograms.{counted_has}
use Rattle.sci_outcomes.proofs.histogram.Histogram.has.Goals as goal

pub returns : goal.returns
returns c = λ seen counted. c.contains_key.ensures ∙ counted_has c.args.self.now seen c.args.outcome.now counted
