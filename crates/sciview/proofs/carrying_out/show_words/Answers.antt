use Rattle.std.proofs.Common.{◌≡◌, refl}
use Rattle.sci_command.specs.declared.outcome.Outcome.TheVariants.{Done, Refused}
use Rattle.sci_command.proofs.Finished.{written_text}
use Rattle.sciview.proofs.carrying_out.show_words.Goals as goal

apart : Done ≡ Refused → ⊥
apart is = cc

pub returns-clause-written : goal.returns-clause-written
returns-clause-written g c =
    let written = c.write_answer.ensures in
    written_text _ c.as_bytes.result.now Done (apart, (c.as_bytes.ensures.value, refl)) _ _ _ _ written.front written.whole written.unfailed written.failed
