use Rattle.sci_statistics.specs.Transitions.{in_states, is_of_tables}
use Rattle.sci_statistics.specs.declared.transition.Met.TheVariants.{Ask}
use Rattle.sci_words.specs.declared.event.AskKind.TheVariants.{Mread}
use Rattle.sci_statistics.proofs.Kept.{kept_more}
use Rattle.sci_statistics.proofs.tables.push_pairs.Goals as goal

pub loop-met-preserved : goal.loop-met-preserved
loop-met-preserved c = kept_more in_states is_of_tables c.args.mets.now c.loop-met.met-index (Ask Mread) _ _ _ c.loop-met-test.true
    c.loop-met.invariant c.in_ok-push_in_states.ensures
