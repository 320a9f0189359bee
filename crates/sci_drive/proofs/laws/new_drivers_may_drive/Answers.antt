use Rattle.sci_drive.proofs.{Drives.{opens}, InOrder.{opens_in_order}}
use Rattle.sci_drive.proofs.laws.new_drivers_may_drive.Goals as goal

pub returns-clause-driven : goal.returns-clause-driven
returns-clause-driven c = opens

pub returns-clause-order : goal.returns-clause-order
returns-clause-order c = opens_in_order
