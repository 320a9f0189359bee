use Rattle.sci_command.proofs.Joined.{joined3}
use Rattle.sci_reports.specs.NoteText.{left_text}
use Rattle.sci_reports.proofs.note.push_left.Goals as goal

pub returns : goal.returns
unfolding left_text
returns c = joined3 _ _ _ _ _ _ _ c.in_ok-push_text.ensures.text c.in_ok-push_contents.ensures c.in_ok-push_text-2.ensures.text
