use Rattle.std.proofs.Common.{sym, ◌∙◌}
use Rattle.sci_text.specs.Tap.{has_failed, tapped}
use Rattle.sci_command.proofs.Printed.{wrote}
use Rattle.sci_command.proofs.printer.write_on.Goals as goal

pub returns-then-not-failed-clause-printed : goal.returns-then-not-failed-clause-printed
returns-then-not-failed-clause-printed g c = λ start text.
    let contents = g.W.Write.contents in
    let writer = c.args.writer.now in
    let written = c.write_text-result in
    wrote start (contents (tapped writer)) (contents (tapped written.new.writer)) (has_failed writer) (has_failed written.new.writer) c.args.waiting.now text
    written.result (sym c.failed.ensures ∙ c.if-not-failed.true) written.ensures.text written.ensures.kind written.ensures.fault
