use Rattle.std.proofs.Common.{rules, ◌≡◌, ℕ, Some}
use Rattle.std.specs.Prelude.{IfSome, unwrap_or}
use Rattle.sci_words.specs.declared.event.AskKind.{AskKind}
use Rattle.sci_cache.specs.{Asking.{asked_node, asking}, State.{CacheState, Out}}
use Rattle.sci_c.proofs.laws.requests_go_to_the_asked_node.Goals as goal

goes_to : (home : ℕ) (state : CacheState) (kind : AskKind) → IfSome (asking state kind) (λ asked. asked_node home asked.next ≡ Some (unwrap_or asked.to home))
goes_to home Out kind = grind rules
goes_to home _ kind = grind rules

pub returns : goal.returns
returns c = goes_to
