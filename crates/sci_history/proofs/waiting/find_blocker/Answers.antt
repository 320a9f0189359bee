use Rattle.std.proofs.Common.{◌≡◌, None, ℕ, arith}
use borrow.Author.Count.{below_more}
use Rattle.std.specs.List.{AllByRecursion}
use Rattle.sci_history.specs.{declared.entry.Entry.{Entry}, Placed.{log_of}, Placing.{line_reason, rests_of}}
use Rattle.sci_history.proofs.Waits.{all_nodes}
use Rattle.sci_history.proofs.waiting.find_blocker.Goals as goal

pub loop-node-preserved : goal.loop-node-preserved
loop-node-preserved c =
    let P = λ (other : Entry). line_reason c.args.entry.now other ≡ None in
    below_more (λ (m : ℕ). AllByRecursion P (log_of (rests_of c.args.logs.now c.args.next.now) m)) c.loop-node.node c.loop-node.invariant
    (c.blocker_of.ensures.none c.in_default.is)

pub returns-clause-none : goal.returns-clause-none
returns-clause-none c e =
    all_nodes (λ (other : Entry). line_reason c.args.entry.now other ≡ None) c.args.logs.now c.args.next.now (λ m lt. c.loop-node.invariant m (omega arith))
