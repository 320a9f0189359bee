use Rattle.sci_traces.specs.ObstacleWords.{waiting_words}
use Rattle.sci_command.proofs.Joined.{joined}
use Rattle.sci_traces.proofs.obstacle_words.push_waiting_words.Goals as goal

pub returns : goal.returns
unfolding waiting_words
returns c = joined _ _ _ _ _ c.in_ok-push_node_line_words.ensures c.in_ok-push_text.ensures.text
