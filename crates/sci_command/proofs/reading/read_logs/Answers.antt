use Rattle.sci_text.specs.{LogFault.{IsLogFault}, Tap.{has_failed, tapped}}
use Rattle.sci_command.proofs.Refusals.{told_refusals}
use Rattle.sci_command.proofs.reading.read_logs.Goals as goal

pub returns-clause-fault : goal.returns-clause-fault
returns-clause-fault g c =
    told_refusals IsLogFault (g.R.Read.remaining (tapped c.args.reader.now)) (has_failed c.read_input.new.reader) c.logs_of.result
    c.in_ok-input.ensures.unfailed (rw c.deref.ensures.value c.in_ok-input.ensures.read) c.logs_of.ensures.fault
