use Rattle.std.proofs.Common.{◌∙◌, ap}
use Rattle.sci_core.specs.Node.{NodeOf}
use Rattle.sci_station.proofs.{Beats.{node_of_end, shown_of_end}, OneLogs.{one_log}}
use Rattle.sci_station.proofs.station.Station.log.Goals as goal

pub returns-clause-one : goal.returns-clause-one
returns-clause-one c = one_log c.self.inside.post.end.part c.log.result.now
    (shown_of_end c.end.result.now c.self.inside.post.end c.node.ensures.shown c.end.ensures)
    (c.log.ensures ∙ ap (λ (m : NodeOf). m.log) (node_of_end c.node.result.now c.end.result.now c.self.inside.post.end c.node.ensures.node c.end.ensures))
