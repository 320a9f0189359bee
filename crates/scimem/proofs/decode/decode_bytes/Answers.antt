use Rattle.std.proofs.Common.{Some, inl, refl, ◌∙◌}
use Rattle.sci_text.specs.Tap.{tapped, has_failed}
use Rattle.sci_command.specs.{declared.outcome.Outcome.TheVariants.{Refused}, Writing.{IsPrinted}}
use Rattle.sci_command.proofs.Finished.{written_text}
use Rattle.scimem.specs.Decoding.{IsDecodedBeside}
use Rattle.scimem.proofs.UnreadInputs.{refused}
use Rattle.scimem.proofs.decode.decode_bytes.Goals as goal

pub returns-in-Ok-clause-answer : goal.returns-in-Ok-clause-answer
returns-in-Ok-clause-answer g c =
    let known = g.R.Read.remaining (tapped c.args.reader.now) in
    let unread = has_failed c.read_input.new.reader in
    let start = g.W.Write.contents (tapped c.args.writer.now) in
    let printed = c.print_packets-outcome.ensures.printed in
    let text = printed.0 in
    let ended = c.print_end.ensures in
    let decoded = rw c.deref.ensures.value at printed.1 in
    let mid = c.print_packets-outcome.new.writer in
    let waits : IsPrinted start (g.W.Write.contents (tapped mid)) (has_failed mid) c.deref-in-Ok.result.now text = rw c.deref-in-Ok.ensures.value printed.2 in
    record {
      answers = written_text (IsDecodedBeside c.no_packet.result known unread) text c.print_packets-outcome.result
          (inl (c.in-Ok.ensures.unfailed, (c.in-Ok.input.items, c.in-Ok.ensures.read, decoded)), c.no_packet.ensures) _ _ _ _
          (ended.front start text waits) (ended.whole start text waits) ended.unfailed ended.failed;
      read_no_more = c.read_input.ensures.again;
      wrote_no_more = ended.again ∙ c.print_packets-outcome.ensures.again;
    }

pub returns-in-Err-clause-answer : goal.returns-in-Err-clause-answer
returns-in-Err-clause-answer g c =
    let known = g.R.Read.remaining (tapped c.args.reader.now) in
    let unread = has_failed c.read_input.new.reader in
    let written = c.write_answer.ensures in record {
      answers = written_text (IsDecodedBeside (Some c.from.result) known unread) c.as_slice.result.now Refused (
        rw (c.as_slice.ensures, c.refusal_of-line.ensures, c.word_of_fault.ensures.word)
            (refused known unread c.in-Err.fault.kind c.in-Err.ensures.fault),
        (λ some. refl, λ is. refl),
      ) _ _ _ _ written.front written.whole
          written.unfailed written.failed;
      read_no_more = c.read_input.ensures.again;
      wrote_no_more = written.again;
    }
