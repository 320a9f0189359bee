use Rattle.std.proofs.Common.{◌++◌, ◌∙◌, ap}
use Rattle.sci_command.proofs.Joined.{joined4}
use Rattle.sci_reports.specs.NoteText.{done_text}
use Rattle.sci_reports.proofs.note.push_done.Goals as goal

pub returns : goal.returns
unfolding done_text
returns c =
    joined4 _ _ _ _ _ _ _ _ _ (c.in_ok-push_text.ensures.text ∙ ap (λ text. c.args.out.now.items ++ text) c.verb.ensures)
    (rw c.from.ensures at c.in_ok-push_field.ensures.text) c.in_ok-push_labelled.ensures c.in_ok-push_got.ensures
