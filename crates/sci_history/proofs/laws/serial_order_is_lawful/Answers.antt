use Rattle.sci_history.proofs.SerialOrder.{issued_stay, lawful_sorted, within_sorted}
use Rattle.sci_history.proofs.laws.serial_order_is_lawful.Goals as goal

pub returns-clause-lawful : goal.returns-clause-lawful
returns-clause-lawful c logs last sixteen lawful = lawful_sorted logs last sixteen lawful

pub returns-clause-issued : goal.returns-clause-issued
returns-clause-issued c logs issued = issued_stay logs issued

pub returns-clause-within : goal.returns-clause-within
returns-clause-within c lines logs within = within_sorted lines logs within
