use Rattle.std.proofs.{Common.{arith}, lemmas.{Grind.{common_steps}, List.Elements.{filter_map-append}}}
use Rattle.sci_outcomes.proofs.outcome.push_replies.Goals.{in-Some+in_ok-push, in_default}
use Rattle.sci_outcomes.proofs.outcome.push_replies.Goals as goal

pub loop-entry-preserved : goal.loop-entry-preserved
loop-entry-preserved c = grind (arith, common_steps, filter_map-append, in_default)
