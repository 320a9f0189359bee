use Rattle.std.proofs.Common.{inr, ◌∙◌}
use Rattle.sci_runs.proofs.RunEnds.{ends_of}
use Rattle.sci_core.specs.{Outcome.{logs_of}, Sharing.{last_of}}
use Rattle.sci_outcomes.proofs.Sightings.{drawn_sighting, unfinished}
use Rattle.sci_outcomes.proofs.trials.drawn_run.Goals as goal

pub returns-clause-seen : goal.returns-clause-seen
returns-clause-seen c =
    let ran = c.in_ok-run in
    let machine = ran.run'.machine in
    let ends = ends_of c.args.litmus.script.now ran.run'.schedule machine ran.ensures.led in
    let seen = c.in_ok-seen.ensures in
    drawn_sighting c.args.litmus.script.now c.args.litmus.issuing c.args.seed ran.run'.turns ran.run'.done ran.run'.schedule
    c.args.litmus.places.now (logs_of machine) (last_of machine) c.in_ok-seen.field-0 c.if-not-run.false ran.ensures.run ran.ensures.played
    c.requires.places_are ends.0 ends.1 seen.lawful seen.consistent seen.seen

pub returns-then-not-run-clause-given_up : goal.returns-then-not-run-clause-given_up
returns-then-not-run-clause-given_up c = λ _.
    let ran = c.in_ok-run in
    inr (unfinished c.args.litmus.script.now c.args.litmus.issuing c.args.seed ran.run'.turns ran.run'.done ran.run'.schedule c.if-not-run.true
    ran.ensures.run ran.ensures.played (λ isnt. ran.ensures.all isnt ∙ c.from.ensures))
