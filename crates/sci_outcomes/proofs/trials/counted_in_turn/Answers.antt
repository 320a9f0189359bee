use Rattle.std.proofs.Common.{subst}
use Rattle.sci_outcomes.specs.{declared.trials.Turns.{Turns}, Trials.{IsSightingOf, turns_of_run}}
use Rattle.sci_outcomes.proofs.Sightings.{seen_more}
use Rattle.sci_outcomes.proofs.trials.counted_in_turn.Goals as goal

pub loop-number-preserved : goal.loop-number-preserved
loop-number-preserved g c =
    let litmus = c.args.litmus in
    let script = litmus.script.now in
    let number = c.loop-number.number in
    let sighting = c.in_ok-sighting.sighting in
    let is = subst (λ (turns : Turns). IsSightingOf script turns litmus.issuing sighting) c.of_run.ensures c.in_ok-sighting.ensures.seen in
    seen_more (λ k. IsSightingOf script (turns_of_run litmus.turns k) litmus.issuing) c.args.share.start c.loop-number.histogram c.add.new.self number
    sighting c.loop-number.invariant is c.in_ok-add.ensures
