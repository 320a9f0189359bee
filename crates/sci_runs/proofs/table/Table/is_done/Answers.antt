use Rattle.std.proofs.{Common.{All, subst, sym}, lemmas.List.Elements.{All-map}}
use Rattle.sci_runs.specs.{declared.player.Player.{Player}, Players.{TableOf}}
use Rattle.sci_drive.specs.Driving.{IsAnswered}
use Rattle.sci_runs.proofs.RunEnds.{of_mapped}
use Rattle.sci_runs.proofs.table.Table.is_done.Goals as goal

pub returns : goal.returns
returns c = (
  (λ is.
      let answered = subst (All (λ (player : Player). IsAnswered player.driver)) c.deref.ensures.value (c.are_answered.ensures.0 is) in
      subst (λ (table : TableOf). All IsAnswered table.drivers) c.self.view_is
      (All-map IsAnswered (λ (player : Player). player.driver) c.self.inside.players.items answered)),
  λ all.
      let drivers = subst (λ (table : TableOf). All IsAnswered table.drivers) (sym c.self.view_is) all in
      c.are_answered.ensures.1 (subst (All (λ (player : Player). IsAnswered player.driver)) (sym c.deref.ensures.value)
      (of_mapped IsAnswered (λ (player : Player). player.driver) c.self.inside.players.items drivers)),
)
