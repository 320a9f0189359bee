use Rattle.std.proofs.Common.{◌-◌, take, drop, ◌≡◌, ◌+◌, ℕ, Some, length, set, sym, subst, ◌∙◌, arith}
use Rattle.std.proofs.lemmas.{List.{length-set}}
use Rattle.sci_history.specs.{Cycle.{IsCycle}}
use Rattle.sci_history.proofs.Shortening.{cycle_kept}
use Rattle.sci_history.proofs.Walks.{IsWalking, sliced, walk_closes, walk_ends, walk_more, walk_short}
use Rattle.sci_history.proofs.waiting.cycle.Goals.{After-deref}
use Rattle.sci_history.proofs.waiting.cycle.Goals as goal

-- the steps from the first at the node on
closing : (c : After-deref) → IsCycle c.args.logs.now (take (length c.deref.result.now - c.in-Some.start) (drop c.in-Some.start c.deref.result.now))
closing c =
    subst (IsCycle c.args.logs.now) (sym (sliced c.loop.steps.items c.deref.result.now c.in-Some.start c.deref.ensures.value))
    (walk_closes c.args.logs.now c.args.next.now c.loop.starts c.loop.steps.items c.loop.node c.loop.counter c.in-Some.start c.in-Some.is
    c.loop.invariant.walking)

pub without_shortcuts-requires : goal.without_shortcuts-requires
without_shortcuts-requires c = (closing (goal.at.without_shortcuts-requires c).After-deref).round

pub returns-in-Some-clause-cycle : goal.returns-in-Some-clause-cycle
returns-in-Some-clause-cycle c = grind (arith, cycle_kept, closing)

pub returns-in-Some-clause-bare : goal.returns-in-Some-clause-bare
returns-in-Some-clause-bare c = grind arith

pub returns-in-Some-clause-few : goal.returns-in-Some-clause-few
returns-in-Some-clause-few c = grind (arith, walk_short, sliced)

pub loop-preserved : goal.loop-preserved
loop-preserved c =
    let leads = c.in_ok-node.ensures.leads in
    let more = walk_more c.args.logs.now c.args.next.now c.loop.starts c.loop.steps.items leads.0 c.push_wait.new.steps.items c.loop.node c.in_ok-node.node
    c.loop.counter c.loop.invariant.long c.in_default.is leads.1 leads.2 c.in_ok-node.ensures.known c.in_ok-node.ensures.left c.loop.invariant.walking in
    record {
      long = length-set c.loop.starts c.loop.node (Some c.len.result) ∙ c.loop.invariant.long;
      walking = subst (λ (k : ℕ). IsWalking c.args.logs.now c.args.next.now (set c.loop.starts c.loop.node (Some k)) c.push_wait.new.steps.items
          c.in_ok-node.node (c.loop.counter + 1)) (sym (let is : c.len.result ≡ length c.loop.steps.items = omega arith in is)) more;
    }

pub unreachable-requires : goal.unreachable-requires
unreachable-requires c =
    let ends = walk_ends c.args.logs.now c.args.next.now c.loop.starts c.loop.steps.items c.loop.node c.loop.counter c.loop.invariant.long
    c.loop.invariant.walking in
    omega arith
