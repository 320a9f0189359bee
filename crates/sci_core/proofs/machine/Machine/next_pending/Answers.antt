use Rattle.std.proofs.Common.{◌≡◌, ◌<◌, ap, arith}
use Rattle.sci_core.specs.{Core.{node_at}, Node.{lines_of}}
use Rattle.sci_core.proofs.WellFormed.WellFormedSteps.{reached_well}
use Rattle.sci_core.proofs.machine.Machine.next_pending.Goals as goal

pub returns-in-Some-clause-line : goal.returns-in-Some-clause-line
returns-in-Some-clause-line c =
    let core = c.args.self.now in
    let there = c.nodes.auto.node-end in
    let nodes = c.extent-extent.ensures.nodes in
    let some : c.nodes.node < core.size.nodes = omega arith in
    let long = ((reached_well core c.extent-extent.ensures.reached).each_part c.nodes.node some).each in
    let same : lines_of c.node.result.now ≡ lines_of (node_at core c.nodes.node) = ap lines_of c.node.ensures.node in
    let below = c.pending_lines.ensures.here c.in-Some.line c.in-Some.ensures.found in
    omega arith
