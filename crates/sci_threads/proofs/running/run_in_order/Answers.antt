use Rattle.std.proofs.Common.{refl, sym, subst}
use Rattle.sci_history.specs.Sequential.{AreInProgramOrder}
use Rattle.sci_drive.specs.declared.driver.Issuing.TheVariants.{InOrder}
use Rattle.sci_drive.specs.ScriptLogs.{HaveFrontLogsOf, HaveLogsOf, HaveWholeLogsOf}
use Rattle.sci_threads.proofs.{DrivenNodes.{led_and_driven}, RunStations.{led_by}}
use Rattle.sci_threads.proofs.running.run_in_order.Goals as goal

pub returns-clause-named : goal.returns-clause-named
returns-clause-named g c = subst (HaveLogsOf c.args.script.now) (sym c.finish-logs.ensures.logs) c.in_ok-machine.ensures.named

pub returns-clause-whole : goal.returns-clause-whole
returns-clause-whole g c = λ finished.
    subst (HaveWholeLogsOf c.args.script.now) (sym c.finish-logs.ensures.logs) (c.in_ok-machine.ensures.whole finished)

pub returns-clause-led : goal.returns-clause-led
returns-clause-led g c = led_by _ _ _ _ c.in_ok-machine.ensures.rounds.0 c.finish-logs.ensures.logs c.finish-logs.ensures.last

pub returns-clause-ordered : goal.returns-clause-ordered
returns-clause-ordered g c = subst AreInProgramOrder (sym c.finish-logs.ensures.logs) (c.in_ok-machine.ensures.ordered refl)

pub returns-clause-front : goal.returns-clause-front
returns-clause-front g c = subst (HaveFrontLogsOf c.args.script.now) (sym c.finish-logs.ensures.logs) (c.in_ok-machine.ensures.front refl)

pub returns-clause-rounds : goal.returns-clause-rounds
returns-clause-rounds g c =
    led_and_driven g.G.Gate.hears c.args.turns InOrder c.args.gates.items c.in_ok-machine.machine c.in_ok-machine.finished _ _ _ _
    c.finish-logs.ensures.logs c.finish-logs.ensures.last c.in_ok-machine.ensures.rounds
