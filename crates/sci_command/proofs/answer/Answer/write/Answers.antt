use Rattle.std.proofs.Common.{refl}
use Rattle.sci_command.proofs.Finished.{written_text}
use Rattle.sci_command.proofs.answer.Answer.write.Goals as goal

pub returns-clause-written : goal.returns-clause-written
returns-clause-written g c =
    let written = c.write_answer.ensures in
    written_text _ c.deref.result.now c.args.self.now.outcome (c.deref.ensures.value, refl) _ _ _ _ written.front written.whole written.unfailed
    written.failed
