use Rattle.sci_reports.proofs.Checked.{log_said, schedule_said, script_said}
use Rattle.sci_reports.proofs.checking.faults_of.Goals as goal

pub returns-in-Size-clause-none : goal.returns-in-Size-clause-none
returns-in-Size-clause-none c = script_said c.args.readings c.in-Size.field-0 c.in-Size.is

pub returns-in-Size-schedule-clause-none : goal.returns-in-Size-schedule-clause-none
returns-in-Size-schedule-clause-none c = schedule_said c.args.readings c.in-Size-schedule.field-0 c.in-Size-schedule.is

pub returns-in-Size-log-clause-none : goal.returns-in-Size-log-clause-none
returns-in-Size-log-clause-none c = log_said c.args.readings c.in-Size-log.field-0 c.in-Size-log.is
