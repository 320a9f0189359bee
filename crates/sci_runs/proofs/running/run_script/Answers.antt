use Rattle.std.proofs.Common.{◌∙◌, rules, subst}
use Rattle.sci_text.specs.Script.{ScriptValue}
use Rattle.sci_drive.specs.declared.driver.Issuing.{Issuing}
use Rattle.sci_runs.specs.{Played.{IsPlayed}, Runs.{IsRunOf}}
use Rattle.sci_runs.proofs.{Ending.{circle_done, has_ended}, Finished.{circle_finishes, finishes}, RunEnds.{run_if}}
use Rattle.sci_runs.proofs.running.run_script.Goals as goal

pub returns-clause-run : goal.returns-clause-run
returns-clause-run c =
    let table = c.go_on.new.self in
    let done = c.in_ok-ran.ran.done in
    let ended = c.finish-ended in
    let schedule = ended.result.schedule in
    subst (λ (s : ScriptValue). IsRunOf s c.args.plan.issuing done schedule) (c.go_on.ensures.script ∙ c.in_ok-table.ensures.script)
    (subst (λ (i : Issuing). IsRunOf table.script i done schedule) (c.go_on.ensures.issuing ∙ c.in_ok-table.ensures.issuing)
    (run_if table.script table.issuing table.drivers schedule done c.in_ok-ran.ensures.answered.0 ended.ensures.run ended.ensures.whole))

played : (c : goal.After-drop-operations-2)
    → IsPlayed c.args.script.now c.args.plan.issuing c.args.plan.seed c.in_ok-ran.ran.turns c.in_ok-ran.ran.done c.finish-ended.result.schedule
played c = search rules

pub returns-clause-goes_on : goal.returns-clause-goes_on
returns-clause-goes_on c = λ window gives is.
    has_ended c.args.script.now c.args.plan.issuing c.args.plan.seed c.in_ok-ran.ran.turns c.in_ok-ran.ran.done c.finish-ended.result.schedule
    c.operations-all.ensures.good (played c) window gives is

pub returns-clause-circle : goal.returns-clause-circle
returns-clause-circle c = λ none enough.
    circle_done c.args.script.now c.args.plan.issuing c.args.plan.seed c.in_ok-ran.ran.turns c.args.plan.turns c.in_ok-ran.ran.done
    c.finish-ended.result.schedule c.operations-all.ensures.good c.finish-ended.ensures.run.good (played c) none enough (λ is. c.in_ok-ran.ensures.all is)

pub returns-clause-windows : goal.returns-clause-windows
returns-clause-windows c = λ windows.
    finishes c.args.script.now c.args.plan.issuing c.args.plan.seed c.in_ok-ran.ran.turns c.in_ok-ran.ran.done c.finish-ended.result.schedule
    c.operations-all.ensures.good (played c) windows

pub returns-clause-finishes : goal.returns-clause-finishes
returns-clause-finishes c = λ none enough.
    circle_finishes c.args.script.now c.args.plan.issuing c.args.plan.seed c.in_ok-ran.ran.turns c.args.plan.turns c.in_ok-ran.ran.done
    c.finish-ended.result.schedule c.operations-all.ensures.good (played c) none enough (λ is. c.in_ok-ran.ensures.all is)
