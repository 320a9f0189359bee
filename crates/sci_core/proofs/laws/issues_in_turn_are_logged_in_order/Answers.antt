use Rattle.sci_core.proofs.History.InTurn.{schedule_turn, schedules_in_turn}
use Rattle.sci_core.proofs.laws.issues_in_turn_are_logged_in_order.Goals as goal

pub returns-clause-one : goal.returns-clause-one
returns-clause-one c = schedule_turn

pub returns-clause-all : goal.returns-clause-all
returns-clause-all c = schedules_in_turn
