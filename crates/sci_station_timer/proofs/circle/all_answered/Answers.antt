use Rattle.std.proofs.{Common.{sym, ◌∙◌}, lemmas.List.{length-set, Elements.{All-set}}}
use Rattle.sci_station_timer.specs.declared.runner.Runner.{Runner}
use Rattle.sci_drive.specs.Driving.{IsDriven}
use Rattle.sci_station.specs.Station.{node_in}
use Rattle.sci_station_timer.proofs.circle.all_answered.Goals as goal

pub returns-in_err-round : goal.returns-in_err-round
returns-in_err-round c = record {
  driven =
      All-set (λ (r : Runner). IsDriven r.driver (node_in r.station)) c.loop-n.runners c.loop-n.n c.round.new.self c.round.ensures.driven c.loop-n.invariant.0;
}

pub loop-n-preserved : goal.loop-n-preserved
loop-n-preserved c = (
  All-set (λ (r : Runner). IsDriven r.driver (node_in r.station)) c.loop-n.runners c.loop-n.n c.round.new.self c.round.ensures.driven c.loop-n.invariant.0,
  c.loop-n.invariant.1 ∙ sym (length-set c.loop-n.runners c.loop-n.n c.round.new.self),
)
