use Rattle.sci_traces.specs.ObstacleWords.{lacking_words}
use Rattle.sci_command.proofs.Joined.{joined5}
use Rattle.sci_traces.proofs.obstacle_words.push_lacking_words.Goals as goal

pub returns : goal.returns
unfolding lacking_words
returns c =
    joined5 _ _ _ _ _ _ _ _ _ _ _ c.in_ok-push_text.ensures.text c.in_ok-push_field.ensures.text c.in_ok-push_text-2.ensures.text
    c.in_ok-push_field-2.ensures.text
    c.in_ok-push_text-3.ensures.text
