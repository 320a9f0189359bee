use Rattle.std.proofs.Common.{◌∙◌, refl}
use Rattle.sci_command.proofs.Finished.{written_text}
use Rattle.sci_command.specs.declared.outcome.Outcome.TheVariants.{Refused}
use Rattle.sci_command.proofs.answer.finish.Goals as goal

pub returns-in-Err-clause-written : goal.returns-in-Err-clause-written
returns-in-Err-clause-written g c =
    let written = c.write_answer.ensures in
    rw c.in-Err.is (written_text _ c.as_slice.result.now Refused (c.as_slice.ensures ∙ c.refusal_line.ensures, refl) _ _ _ _ written.front written.whole
    written.unfailed written.failed)
