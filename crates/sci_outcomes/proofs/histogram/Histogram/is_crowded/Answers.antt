use Rattle.std.proofs.{Common.{ℕ, ◌<◌, ◌*◌, arith, subst}, lemmas.Bool.Decides.{nat_tests}}
use Rattle.sci_outcomes.proofs.Histograms.{crowded}
use Rattle.sci_outcomes.proofs.histogram.Histogram.is_crowded.Goals as goal

pub returns-in-Some-clause-beyond : goal.returns-in-Some-clause-beyond
returns-in-Some-clause-beyond c = λ above.
    let many : c.args.most < c.len-outcomes.result * c.args.operations = grind (arith, nat_tests) in
    crowded c.args.self.now c.args.most c.args.operations c.len-outcomes.ensures.ordered
    (subst (λ (n : ℕ). c.args.most < n * c.args.operations) c.len-outcomes.ensures.len many)

pub returns-in-None-clause-beyond : goal.returns-in-None-clause-beyond
returns-in-None-clause-beyond c = λ _.
    let many : c.args.most < c.len-outcomes.result * c.args.operations = grind arith in
    crowded c.args.self.now c.args.most c.args.operations c.len-outcomes.ensures.ordered
    (subst (λ (n : ℕ). c.args.most < n * c.args.operations) c.len-outcomes.ensures.len many)
