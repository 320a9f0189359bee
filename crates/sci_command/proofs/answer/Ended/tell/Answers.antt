use Rattle.std.proofs.{Common.{[]}}
use Rattle.sci_text.specs.Tap.{tapped}
use Rattle.sci_command.proofs.Printed.{nothing_printed}
use Rattle.sci_command.proofs.answer.Ended.tell.Goals as goal

pub returns-clause-front : goal.returns-clause-front
returns-clause-front g c =
    let start = g.E.Write.contents (tapped c.args.errors.now) in
    let printed = c.print.ensures.printed start [] (nothing_printed start _ _ c.requires c.new-waiting.ensures.items) in
    c.print_end.ensures.front start _ (rw c.deref.ensures.value printed)

pub returns-clause-whole : goal.returns-clause-whole
returns-clause-whole g c = λ unfailed.
    let start = g.E.Write.contents (tapped c.args.errors.now) in
    let printed = c.print.ensures.printed start [] (nothing_printed start _ _ c.requires c.new-waiting.ensures.items) in
    c.print_end.ensures.whole start _ (rw c.deref.ensures.value printed) unfailed
