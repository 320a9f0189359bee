use Rattle.std.proofs.{Common.{map}, lemmas.Result.{IfOk-weaker}}
use Rattle.sci_core.specs.Size.{size_of}
use Rattle.sci_orders.{proofs.{Exactly.{each_has_run, each_run_among}, Stands.{within}}, specs.Positions.{lists_of, position_of}}
use Rattle.sci_orders.proofs.orders.Orders.outcomes.Goals as goal

pub last_standings-requires : goal.last_standings-requires
last_standings-requires c = within (size_of c.args.extent c.args.limit) (lists_of c.args.self.now.operations.now) c.requires.script

pub returns-clause-each : goal.returns-clause-each
returns-clause-each c =
    IfOk-weaker c.last_standings.result _ _ (λ outcomes so.
    each_has_run (size_of c.args.extent c.args.limit) (lists_of c.args.self.now.operations.now) c.args.self.now.window
    (map position_of outcomes.items) c.requires.size
    c.requires.script so)
    c.last_standings.ensures.reached

pub returns-clause-all : goal.returns-clause-all
returns-clause-all c =
    IfOk-weaker c.last_standings.result _ _ (λ outcomes so. λ schedule runs.
    each_run_among (size_of c.args.extent c.args.limit) (lists_of c.args.self.now.operations.now) c.args.self.now.window
    (map position_of outcomes.items) schedule
    c.requires.size c.requires.script so runs)
    c.last_standings.ensures.reached
