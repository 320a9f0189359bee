use Rattle.std.proofs.Common.{refl, ap, subst, arith}
use Rattle.sci_core.specs.Node.{NodeOf}
use Rattle.sci_policy.specs.{Rest.{MayIdle}, Turn.{MayPerform}, Worker.{HasSameWork, IsNodeTurn}}
use Rattle.sci_station.specs.{Posts.{StationPostOf}}
use Rattle.sci_station.proofs.Posts.{node_there, turned_so}
use Rattle.sci_station.proofs.station.Station.turn.Goals as goal

pub returns-clause-ready : goal.returns-clause-ready
returns-clause-ready c = let new = c.take_turn.new.post.end in
    subst (λ (m : NodeOf). MayPerform m c.take_turn.new.progress.ready) (node_there new.part c.left-left.ensures.shown) c.take_turn.ensures.ready

pub returns-clause-node : goal.returns-clause-node
returns-clause-node c = turned_so (λ (x y : NodeOf). IsNodeTurn x y c.take_turn.new.progress) _ c.args.self.now c.allow.new.self c.take_turn.new.post.end
    c.self.view_is (ap (λ (p : StationPostOf). p.end) c.allow.ensures.allowed) c.allow.ensures.shown c.left-left.ensures.shown c.take_turn.ensures.node

pub returns-clause-work : goal.returns-clause-work
returns-clause-work c = turned_so HasSameWork _ c.args.self.now c.allow.new.self c.take_turn.new.post.end c.self.view_is
    (ap (λ (p : StationPostOf). p.end) c.allow.ensures.allowed) c.allow.ensures.shown c.left-left.ensures.shown c.take_turn.ensures.work

pub returns-clause-rest : goal.returns-clause-rest
returns-clause-rest c = λ idle. subst MayIdle (node_there c.take_turn.new.post.end.part c.left-left.ensures.shown) (c.in-Ok.ensures.rest refl idle)

pub returns-clause-whole : goal.returns-clause-whole
returns-clause-whole c = grind arith
