use Rattle.std.proofs.Common.{◌≡◌, All, map, take}
use Rattle.sci_policy.specs.Policy.{opening_policy}
use Rattle.sci_drive.specs.Driving.{opening_driver}
use Rattle.sci_runs.proofs.player.new_players.Given as goal

abbrev pub invariant-loop-own : goal.invariant-loop-own
invariant-loop-own l = record {
  drivers : map (λ player. player.driver) l.players.items ≡ map (λ own. opening_driver own.items l.issuing) (take l.own-index l.operations);
  policies : All (λ player. player.policy ≡ opening_policy) l.players.items;
}
