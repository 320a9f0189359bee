-- Each event is enabled exactly if nothing stands in its way.
use Rattle.std.proofs.Common.{ap, sym, is_none, is_some, arith}
use Rattle.sci_core.specs.declared.taking.Taking.TheVariants.{Serve, Refuse, Accept}
use Rattle.sci_core.proofs.Step.Obstacles.{issue_free, perform_free, ask_free, reply_free, take_free}
use Rattle.sci_core.proofs.Step.Stepping.{stepping_nobody}
use Rattle.sci_core.proofs.machine.Machine.obstacle_to.Goals as goal

pub returns-then-node_of-extent-clause-enabled : goal.returns-then-node_of-extent-clause-enabled
returns-then-node_of-extent-clause-enabled c =
    sym (ap is_some (stepping_nobody c.args.self.now c.args.event.now (omega (arith, c.if-node_of-extent.true, c.extent.ensures.nodes, c.node_of.ensures))))

pub returns-in-Issue-clause-enabled : goal.returns-in-Issue-clause-enabled
returns-in-Issue-clause-enabled c = grind (arith, issue_free)

pub returns-in-Perform-clause-enabled : goal.returns-in-Perform-clause-enabled
returns-in-Perform-clause-enabled c = grind (arith, perform_free)

pub returns-in-Ask-clause-enabled : goal.returns-in-Ask-clause-enabled
returns-in-Ask-clause-enabled c =
    ask_free c.args.self.now c.args.event.now c.in-Ask.node c.in-Ask.line c.in-Ask.kind c.node-in-Ask.result.now (is_none c.ask_obstacle.result) c.in-Ask.is
    (omega (arith, c.if-node_of-extent.false, c.extent.ensures.nodes, c.node_of.ensures)) c.node-in-Ask.ensures.node c.ask_obstacle.ensures.enabled

pub returns-in-Serve-clause-enabled : goal.returns-in-Serve-clause-enabled
returns-in-Serve-clause-enabled c =
    take_free c.args.self.now c.args.event.now Serve c.in-Serve.from c.in-Serve.node c.take_obstacle.result c.in-Serve.is c.extent.ensures.reached
    (omega (arith, c.if-node_of-extent.false, c.extent.ensures.nodes, c.node_of.ensures)) c.take_obstacle.ensures

pub returns-in-Refuse-clause-enabled : goal.returns-in-Refuse-clause-enabled
returns-in-Refuse-clause-enabled c =
    take_free c.args.self.now c.args.event.now Refuse c.in-Refuse.from c.in-Refuse.node c.take_obstacle-in-Refuse.result c.in-Refuse.is c.extent.ensures.reached
    (omega (arith, c.if-node_of-extent.false, c.extent.ensures.nodes, c.node_of.ensures)) c.take_obstacle-in-Refuse.ensures

pub returns-in-Reply-clause-enabled : goal.returns-in-Reply-clause-enabled
returns-in-Reply-clause-enabled c = grind (arith, reply_free)

pub returns-in-Accept-clause-enabled : goal.returns-in-Accept-clause-enabled
returns-in-Accept-clause-enabled c =
    take_free c.args.self.now c.args.event.now Accept c.in-Accept.from c.in-Accept.node c.take_obstacle-in-Accept.result c.in-Accept.is c.extent.ensures.reached
    (omega (arith, c.if-node_of-extent.false, c.extent.ensures.nodes, c.node_of.ensures)) c.take_obstacle-in-Accept.ensures
