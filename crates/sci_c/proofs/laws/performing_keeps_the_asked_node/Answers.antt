use Rattle.std.proofs.Common.{rules, ◌≡◌, ℕ}
use Rattle.std.specs.Prelude.{IfSome}
use Rattle.sci_words.specs.declared.operation.Op.{Op}
use Rattle.sci_cache.specs.{Asking.{asked_node}, Performing.{performing}, State.{CacheState, Out}}
use Rattle.sci_c.proofs.laws.performing_keeps_the_asked_node.Goals as goal

keeps : (home : ℕ) (state : CacheState) (op : Op) → IfSome (performing state op) (λ done. asked_node home done.next ≡ asked_node home state)
keeps home Out op = grind rules
keeps home _ op = grind rules

pub returns : goal.returns
returns c = keeps
