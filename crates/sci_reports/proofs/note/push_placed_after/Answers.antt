use Rattle.sci_command.proofs.Joined.{joined4}
use Rattle.sci_reports.specs.NoteText.{placed_after_text}
use Rattle.sci_reports.proofs.note.push_placed_after.Goals as goal

pub returns : goal.returns
unfolding placed_after_text
returns c =
    joined4 _ _ _ _ _ _ _ _ _ c.in_ok-push_labelled.ensures c.in_ok-push_text.ensures.text c.in_ok-push_who_where.ensures c.in_ok-push_labelled-2.ensures
