use Rattle.std.proofs.{Common.{sym, subst, ◌∙◌}, lemmas.List.{append-nil}}
use Rattle.std.specs.Io.KnownBytes.{Appends}
use Rattle.sci_text.specs.Tap.{has_failed, tapped}
use Rattle.sci_command.proofs.Printed.{wrote_waiting}
use Rattle.sci_command.proofs.printer.print_end.Goals as goal

pub returns-clause-front : goal.returns-clause-front
returns-clause-front g c = λ start text is.
    let contents = g.W.Write.contents in
    let unfailed = sym c.failed.ensures ∙ c.if-failed.false in
    (wrote_waiting start (contents (tapped c.args.writer.now)) (contents (tapped c.write_answer.new.writer)) (has_failed c.write_answer.new.writer)
    c.args.waiting.now text (rw unfailed at is) c.write_answer.ensures.front c.write_answer.ensures.whole).front

pub returns-clause-whole : goal.returns-clause-whole
returns-clause-whole g c = λ start text is ok.
    let contents = g.W.Write.contents in
    let unfailed = sym c.failed.ensures ∙ c.if-failed.false in
    let printed = (wrote_waiting start (contents (tapped c.args.writer.now)) (contents (tapped c.write_answer.new.writer))
    (has_failed c.write_answer.new.writer) c.args.waiting.now text (rw unfailed at is) c.write_answer.ensures.front c.write_answer.ensures.whole).waits ok in
    subst (Appends start (contents (tapped c.write_answer.new.writer))) (sym (printed.2 ∙ append-nil printed.0)) printed.1
