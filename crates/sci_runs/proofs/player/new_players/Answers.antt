use Rattle.std.proofs.{Common.{◌≡◌, All, arith, sym, subst}, lemmas.{Grind.{common_steps}, List.Elements.{All-push}}}
use Rattle.sci_policy.specs.Policy.{opening_policy}
use Rattle.sci_runs.specs.declared.player.Player.{Player}
use Rattle.sci_runs.proofs.player.new_players.Goals as goal

pub loop-own-preserved : goal.loop-own-preserved
loop-own-preserved c = record {
  drivers = grind (arith, common_steps);
  policies = subst (All (λ (player : Player). player.policy ≡ opening_policy)) (sym c.in_ok-push.ensures.items)
      (All-push (λ (player : Player). player.policy ≡ opening_policy) c.loop-own.players.items _ c.loop-own.invariant.policies c.new-in-loop-own.ensures);
}
