use Rattle.std.proofs.Common.{ap, ◌∙◌}
use Rattle.sci_outcomes.specs.Rows.{with_run}
use Rattle.sci_outcomes.proofs.Histograms.{counted_more}
use Rattle.sci_outcomes.proofs.histogram.Histogram.add.Goals as goal

pub returns : goal.returns
returns c = λ seen counted.
    counted_more c.args.self.now c.insert.new.self seen c.args.sighting c.joined-tally.result counted
    (c.joined-tally.ensures ∙ ap (λ t. with_run t c.args.self.now.runs c.args.sighting.in_order) c.get.ensures.value)
    c.in_ok-insert.ensures.updates c.in_ok-insert.ensures.entries c.insert.ensures.was_ordered
