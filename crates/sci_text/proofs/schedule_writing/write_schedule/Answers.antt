use Rattle.sci_text.proofs.schedule_writing.write_schedule.Goals as goal

pub returns-in_err-text-clause-few : goal.returns-in_err-text-clause-few
returns-in_err-text-clause-few g c = c.schedules_are_short.ensures c.args.schedule.now c.schedule_text.ensures.good

pub returns-clause-few : goal.returns-clause-few
returns-clause-few g c = c.schedules_are_short.ensures c.args.schedule.now c.schedule_text.ensures.good
