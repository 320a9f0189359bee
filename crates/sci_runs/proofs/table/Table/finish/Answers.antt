use Rattle.std.proofs.Common.{false, true}
use Rattle.sci_runs.proofs.RunEnds.{led_to, run_of}
use Rattle.sci_runs.proofs.table.Table.finish.Goals as goal

pub returns-clause-run : goal.returns-clause-run
returns-clause-run c = run_of _ _ c.finish.result.schedule c.self.view_is c.self.invariant c.finish.ensures.led c.finish.ensures.reached
    c.finish.ensures.good c.finish.ensures.sized false (λ is. absurd cc)

pub returns-clause-whole : goal.returns-clause-whole
returns-clause-whole c = λ answered.
    run_of _ _ c.finish.result.schedule c.self.view_is c.self.invariant c.finish.ensures.led c.finish.ensures.reached c.finish.ensures.good
    c.finish.ensures.sized true (λ is. answered)

pub returns-clause-led : goal.returns-clause-led
returns-clause-led c = led_to _ _ c.finish.result.schedule c.finish.result.machine c.self.view_is c.self.invariant c.finish.ensures.led c.finish.ensures.machine
