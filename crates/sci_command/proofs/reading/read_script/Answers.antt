use Rattle.sci_text.specs.{ScriptFault.{IsScriptFault}, Tap.{has_failed, tapped}}
use Rattle.sci_command.proofs.Refusals.{told_refusal}
use Rattle.sci_command.proofs.reading.read_script.Goals as goal

pub returns-clause-fault : goal.returns-clause-fault
returns-clause-fault g c =
    told_refusal IsScriptFault (g.R.Read.remaining (tapped c.args.reader.now)) (has_failed c.read_input.new.reader) c.in-Err.fault c.of_text.result.fault
    c.of_text.ensures c.in_ok-input.ensures.unfailed (rw c.deref.ensures.value c.in_ok-input.ensures.read) c.in-Err.ensures.fault
