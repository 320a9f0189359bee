use Rattle.std.proofs.{Common.{arith}, lemmas.Grind.{common_steps}}
use Rattle.sci_cache.proofs.Index.{with_performed}
use Rattle.sci_cache.proofs.cache.Cache.perform.Goals as goal

pub invariant_of-self : goal.invariant_of-self
invariant_of-self c =
    with_performed c.self.inside.taken c.self.inside.kinds c.self.inside.lines.items c.from.result c.index_mut-part.result.now c.perform.new.self c.args.op.now
    c.perform.result
    (grind (arith, common_steps)) (grind (arith, common_steps)) c.self.invariant c.perform.ensures.done c.perform.ensures.same
