use Rattle.std.proofs.Common.{◌≡◌, ◌∷◌, ◌+◌, drop, sym, ap, subst, ◌∙◌, arith}
use Rattle.std.proofs.lemmas.List.{drop_more}
use Rattle.std.proofs.Math.ListN.{drop_of_length-le}
use Rattle.sci_judge.specs.{declared.cycle.Link.{Link}, Cycle.{IsCycle}}
use Rattle.sci_judge.proofs.Cycles.{linked_end, linked_step}
use Rattle.sci_judge.proofs.linking.Sorted.is_cycle.Goals as goal

pub loop-next-preserved : goal.loop-next-preserved
loop-next-preserved c = λ z y at_z at_y linked.
    let trace = c.args.self.now.trace.now in
    let others = c.in-Some.others.now in
    let i = c.loop-next.next-index in
    let next = c.next-item.result in
    let is = drop_more others i next c.loop-next-test.true ∙ ap (λ (l : Link). l ∷ drop (i + 1) others) (sym c.next-item.is) in
    let step = linked_step c.args.self.now.timed trace c.loop-next.link.now next (drop i others) (drop (i + 1) others) c.in-Some.first.now.place z y is
    (c.in_ok-is_first.ensures c.if-not-branch.false) at_y linked in
    c.loop-next.invariant z step.0 at_z step.1 step.2

pub returns : goal.returns
returns c = λ shown.
    let trace = c.args.self.now.trace.now in
    let others = c.in-Some.others.now in
    let ended = drop_of_length-le others {i = c.loop-next.next-index} (let past = c.loop-next-test.false in omega arith) in
    let end = linked_end c.args.self.now.timed trace c.loop-next.link.now (drop c.loop-next.next-index others) c.in-Some.first.now.place ended
    (c.in_ok-is_first-2.ensures shown) in
    let all = c.loop-next.invariant end.1 end.0 end.3 end.2 end.4 in
    let is : c.args.links.now ≡ c.in-Some.first.now ∷ others = c.in-Some.ensures.cases.0 in
    subst (IsCycle c.args.self.now.timed trace) (sym is) (end.1, end.3, all)
