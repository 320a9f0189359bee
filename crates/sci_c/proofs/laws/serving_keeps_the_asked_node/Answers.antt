use Rattle.std.proofs.Common.{rules, ◌≡◌, ℕ}
use Rattle.std.specs.Prelude.{IfSome, true}
use Rattle.sci_packets.specs.declared.body.Body.{Body}
use Rattle.sci_cache.specs.{Serving.{serving}, State.{CacheState, Out, waits}}
use Rattle.sci_c.specs.Asked.{told_asked}
use Rattle.sci_c.proofs.laws.serving_keeps_the_asked_node.Goals as goal

keeps : (home n : ℕ) (state : CacheState) (body : Body) → waits state ≡ true
    → IfSome (serving state n body) (λ served. told_asked home served.0 ≡ told_asked home state)
keeps home n Out body w = grind rules
keeps home n _ body w = grind rules

pub returns : goal.returns
returns c = keeps
