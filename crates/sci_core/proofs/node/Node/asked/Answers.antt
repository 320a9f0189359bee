-- What the cache would ask is what the node would ask.
use Rattle.std.proofs.Common.{◌≡◌, Some, subst, arith, ◌<◌}
use Rattle.sci_cache.specs.Cache.{letter_of}
use Rattle.sci_core.specs.{Node.{NodeOf, node_asking, lines_of}, contracts.node.Node.{the_view}}
use Rattle.sci_core.proofs.Step.Asks.{asked_some}
use Rattle.sci_core.proofs.node.Node.asked.Goals as goal

pub returns-in-Ok-clause-asked : goal.returns-in-Ok-clause-asked
returns-in-Ok-clause-asked c =
    let lines = c.self.invariant.0.lines in
    let below : c.args.line < lines_of (the_view c.self.inside) = omega arith in
    subst (λ (node : NodeOf). (next : NodeOf) × (node_asking node c.args.line c.args.kind ≡ Some (next, letter_of c.in-Ok.packet))) c.self.view_is
    (asked_some (the_view c.self.inside) c.args.line c.args.kind (Some c.in-Ok.packet) below c.in-Ok.ensures.asked)
