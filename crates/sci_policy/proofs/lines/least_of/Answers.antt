use Rattle.sci_cache.specs.Kinds.{is_of}
use Rattle.sci_policy.specs.Lines.{state_on}
use Rattle.sci_policy.proofs.LeastAmong.{least_is}
use Rattle.sci_policy.proofs.lines.least_of.Goals as goal

pub returns : goal.returns
returns c =
    let node = c.args.node.now in
    least_is node c.lines_of.result (λ line. is_of c.args.kind (state_on node line)) c.next_from.result c.lines_of.ensures.each c.lines_of.ensures.here
    c.next_from.ensures.found c.next_from.ensures.between
