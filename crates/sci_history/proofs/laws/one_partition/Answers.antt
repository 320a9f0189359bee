use Rattle.sci_history.proofs.Audits.{own_entries, same_logs}
use Rattle.sci_history.proofs.laws.one_partition.Goals as goal

pub returns-clause-one : goal.returns-clause-one
returns-clause-one c = same_logs

pub returns-clause-own : goal.returns-clause-own
returns-clause-own c = own_entries
