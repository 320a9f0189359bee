use Rattle.std.proofs.Common.{◌∷◌, ◌++◌, ◌+◌, drop, sym, ap, ◌∙◌, arith}
use Rattle.std.proofs.lemmas.List.{drop_more}
use Rattle.std.proofs.Math.ListN.{drop_of_length-le}
use Rattle.sci_judge.specs.declared.cycle.Link.{Link}
use Rattle.sci_axe.specs.Telling.{links_text}
use Rattle.sci_axe.proofs.CycleLines.{links_end, links_on}
use Rattle.sci_axe.proofs.telling.push_cycle.Goals as goal

pub loop-next-preserved : goal.loop-next-preserved
loop-next-preserved c =
    let accesses = c.args.accesses.now in
    let others = c.in-Some.others.now in
    let first = c.in-Some.first.now in
    let i = c.loop-next.next-index in
    let next = c.next-item.result in
    let is = drop_more others i next c.loop-next-test.true ∙ ap (λ (l : Link). l ∷ drop (i + 1) others) (sym c.next-item.is) in
    links_on accesses c.loop-next.link.now next (drop i others) (drop (i + 1) others) first.place c.loop-next.out.items c.push_link.new.out.items
    (c.args.out.now.items ++ links_text accesses first others first.place) is c.in_ok-push_link.ensures c.loop-next.invariant

pub returns : goal.returns
returns c =
    let others = c.in-Some.others.now in
    let ended = drop_of_length-le others {i = c.loop-next.next-index} (let past = c.loop-next-test.false in omega arith) in
    links_end c.args.accesses.now c.loop-next.link.now c.in-Some.first.now (drop c.loop-next.next-index others) others c.args.links.now c.loop-next.out.items
    c.push_link-2.new.out.items c.args.out.now.items ended c.in-Some.ensures.cases.0 c.in_ok-push_link-2.ensures c.loop-next.invariant
