use Rattle.std.proofs.{Common.{arith}, lemmas.Grind.{common_steps}}
use Rattle.sci_cache.proofs.Index.{with_changed}
use Rattle.sci_cache.proofs.cache.Cache.apply_ask.Goals as goal

pub invariant_of-self : goal.invariant_of-self
invariant_of-self c =
    with_changed c.self.inside.taken c.taken_after-self-inside.result c.self.inside.kinds c.note.new.self c.self.inside.lines.items c.from.result
    c.index_mut-part.result.now c.ask.new.self
    (grind (arith, common_steps)) (grind (arith, common_steps)) c.self.invariant (grind (arith, common_steps)) (grind (arith, common_steps))
    (grind (arith, common_steps))
