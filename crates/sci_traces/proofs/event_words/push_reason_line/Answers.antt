use Rattle.sci_traces.specs.TraceAnswer.{reason_line}
use Rattle.sci_command.proofs.Joined.{joined3}
use Rattle.sci_traces.proofs.event_words.push_reason_line.Goals as goal

pub returns : goal.returns
unfolding reason_line
returns c = joined3 _ _ _ _ _ _ _ c.in_ok-push_text.ensures.text c.in_ok-push_obstacle.ensures c.in_ok-push_text-2.ensures.text
