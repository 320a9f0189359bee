use Rattle.std.proofs.{Common.{arith}, lemmas.Grind.{common_steps}}
use Rattle.sci_cache.proofs.Index.{with_changed}
use Rattle.sci_cache.proofs.cache.Cache.accept.Goals as goal

pub invariant_of-self-2 : goal.invariant_of-self-2
invariant_of-self-2 c =
    with_changed c.self.inside.taken c.taken_after-self-inside.result c.self.inside.kinds c.note.new.self c.self.inside.lines.items c.args.answer.now.line
    c.index_mut-part.result.now c.accept.new.self
    (grind (arith, common_steps)) (grind (arith, common_steps)) c.self.invariant (grind (arith, common_steps)) (grind (arith, common_steps))
    (grind (arith, common_steps))
