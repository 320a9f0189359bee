use Rattle.std.proofs.Common.{ap, subst, arith}
use Rattle.sci_core.specs.Node.{NodeOf}
use Rattle.sci_policy.specs.{Turn.{MayPerform}, Worker.{HasSameWork}}
use Rattle.sci_station.specs.Posts.{StationPostOf}
use Rattle.sci_station.proofs.Posts.{node_there, turned_so}
use Rattle.sci_station.proofs.station.Station.turn_within.Goals as goal

pub returns-clause-ready : goal.returns-clause-ready
returns-clause-ready c = let new = c.take_turn-ended.new.post.end in
    subst (λ (m : NodeOf). MayPerform m c.take_turn-ended.new.progress.ready) (node_there new.part c.left.ensures.shown) c.take_turn-ended.ensures.ready

pub returns-clause-node : goal.returns-clause-node
returns-clause-node c = grind (arith, turned_so)

pub returns-clause-work : goal.returns-clause-work
returns-clause-work c = turned_so HasSameWork _ c.args.self.now c.allow.new.self c.take_turn-ended.new.post.end c.self.view_is
    (ap (λ (p : StationPostOf). p.end) c.allow.ensures.allowed) c.allow.ensures.shown c.left.ensures.shown c.take_turn-ended.ensures.work
