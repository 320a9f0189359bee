use Rattle.std.proofs.Common.{sym, ◌∙◌}
use Rattle.sci_turn.proofs.Working.{other_stays}
use Rattle.sci_fair.proofs.RankSteps.{event_kept}
use Rattle.sci_fair.proofs.rank.events_never_raise_the_level.Goals as goal

pub returns : goal.returns
returns c = record {
  own = λ core new n before after e reached fit some own steps line.
      (let kept = event_kept core new n before after e reached fit some own steps in (kept.work line, kept.level line));
  others = λ core new n before after e own steps m other. other_stays core new e m (λ is. other (sym is ∙ own.kind.own)) steps;
}
