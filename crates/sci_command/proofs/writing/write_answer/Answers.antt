use Rattle.std.proofs.Common.{◌≡◌, true}
use Rattle.std.specs.Prelude.{is_err}
use Rattle.sci_text.specs.Tap.{tapped, has_failed}
use Rattle.sci_command.proofs.Written.{written_before_fault}
use Rattle.sci_command.proofs.writing.write_answer.Goals as goal

pub returns-then-is_err-clause-front : goal.returns-then-is_err-clause-front
returns-then-is_err-clause-front g c =
    let contents = g.W.Write.contents in
    let failed : is_err c.write_text.result ≡ true = cc in
    written_before_fault c.write_text.result (contents (tapped c.args.writer.now)) (contents (tapped c.write_text.new.writer))
    (has_failed c.write_text.new.writer) c.args.text.now
    failed
    c.write_text.ensures.kind
    c.write_text.ensures.fault
