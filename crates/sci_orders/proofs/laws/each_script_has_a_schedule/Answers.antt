use Rattle.sci_orders.proofs.Scripts.{script_run}
use Rattle.sci_orders.proofs.laws.each_script_has_a_schedule.Goals as goal

pub returns : goal.returns
returns c = script_run
