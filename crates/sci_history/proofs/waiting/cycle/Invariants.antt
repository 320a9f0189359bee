use Rattle.std.proofs.Common.{◌≡◌, length}
use Rattle.sci_words.specs.declared.limits.TheConstants.{MAX_NODES}
use Rattle.sci_history.proofs.Walks.{IsWalking}
use Rattle.sci_history.proofs.waiting.cycle.Given as goal

abbrev pub invariant-loop : goal.invariant-loop
invariant-loop l = record {
  long : length l.starts ≡ MAX_NODES;
  walking : IsWalking l.logs l.next l.starts l.steps.items l.node l.counter;
}
