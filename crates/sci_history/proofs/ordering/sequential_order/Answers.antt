use Rattle.std.specs.Global.{Vec}
use Rattle.std.proofs.Common.{◌≡◌, ℕ, List, length, sym, ap, subst, ◌∙◌, arith}
use Rattle.sci_history.specs.{Audit.{entries_of}, Judged.{IsJudged}, Placing.{AreOrderable, lists_of_counts}}
use Rattle.sci_history.proofs.{Cycles.{no_order_with_cycle}, FoundOrders.{all_done, are_blocked}}
use Rattle.sci_history.proofs.ordering.sequential_order.Goals as goal

pub place_all-requires-clause-few : goal.place_all-requires-clause-few
place_all-requires-clause-few c = grind arith

pub cycle-requires-clause-blocked : goal.cycle-requires-clause-blocked
cycle-requires-clause-blocked c =
    let judged = subst (IsJudged c.args.logs.now c.args.last.now) c.in-Loads.is c.in_ok-line.ensures.judged in
    let able = subst (λ (ls : List (Vec ℕ)). AreOrderable c.args.logs.now (lists_of_counts ls)) (sym c.deref.ensures.value) judged.1 in
    are_blocked c.args.logs.now c.deref.result.now c.in_ok-next.ensures.lines c.in_ok-next.field-0.next (entries_of c.in_ok-next.field-0.order.items) able
    c.in_ok-next.ensures.placing c.in_ok-next.ensures.stuck

pub returns-then-next-node-clause-order : goal.returns-then-next-node-clause-order
returns-then-next-node-clause-order c =
    (λ none. absurd none, λ both. no_order_with_cycle c.args.logs.now c.args.last.now c.in_ok-cycle.field-0.items c.in_ok-cycle.ensures.cycle both.1.0 both.1.1)

pub returns-clause-verdict : goal.returns-clause-verdict
returns-clause-verdict c =
    let judged = subst (IsJudged c.args.logs.now c.args.last.now) c.in-Loads.is c.in_ok-line.ensures.judged in
    let able = subst (λ (ls : List (Vec ℕ)). AreOrderable c.args.logs.now (lists_of_counts ls)) (sym c.deref.ensures.value) judged.1 in
    let long : length c.deref.result.now ≡ length c.args.last.now = ap (λ (ls : List (Vec ℕ)). length ls) c.deref.ensures.value ∙ judged.2 in (
      judged.0,
      all_done c.args.logs.now c.args.last.now c.deref.result.now c.in_ok-next.ensures.lines c.in_ok-next.field-0.next
          (entries_of c.in_ok-next.field-0.order.items) judged.0 c.requires long able c.in_ok-next.ensures.placing
          (λ m lt. c.loop-node.invariant m (omega arith)),
    )

pub returns-clause-order : goal.returns-clause-order
returns-clause-order c =
    let judged = subst (IsJudged c.args.logs.now c.args.last.now) c.in-Loads.is c.in_ok-line.ensures.judged in
    let able = subst (λ (ls : List (Vec ℕ)). AreOrderable c.args.logs.now (lists_of_counts ls)) (sym c.deref.ensures.value) judged.1 in
    let long : length c.deref.result.now ≡ length c.args.last.now = ap (λ (ls : List (Vec ℕ)). length ls) c.deref.ensures.value ∙ judged.2 in
    let done = all_done c.args.logs.now c.args.last.now c.deref.result.now c.in_ok-next.ensures.lines c.in_ok-next.field-0.next
    (entries_of c.in_ok-next.field-0.order.items) judged.0 c.requires long able c.in_ok-next.ensures.placing
    (λ m lt. c.loop-node.invariant m (omega arith)) in
    (λ found. (judged.0, ((entries_of c.in_ok-next.field-0.order.items), done)), λ both. tt)
