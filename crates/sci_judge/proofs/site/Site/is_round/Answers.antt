use Rattle.std.proofs.Common.{◌≡◌, [], ◌+◌, drop, get_or, sym, subst, ◌∙◌, arith}
use Rattle.std.proofs.lemmas.List.{drop_more}
use Rattle.std.proofs.Math.ListN.{drop_of_length-le}
use Rattle.sci_judge.specs.{declared.access.Access.{Access}, Witness.{ComesBefore}}
use Rattle.sci_judge.proofs.{Cycles.{turn_step}, ForcedChecks.{one_access}}
use Rattle.sci_judge.proofs.site.Site.is_round.Goals as goal

pub loop-next-init : goal.loop-next-init
loop-next-init c = grind (arith, one_access)

pub loop-next-preserved : goal.loop-next-preserved
loop-next-preserved c = λ z y at_z at_y turn.
    let accesses = c.args.self.now.accesses.now in
    let through = c.args.through.now in
    let i = c.loop-next.next-index in
    let pair = c.in-Some-ordered.field-0 in
    let has = c.in-Some-ordered.ensures in
    c.loop-next.invariant z pair.0 at_z has.0
    (turn_step c.args.self.now.timed accesses c.loop-next.place (get_or through i 0) (drop i through) (drop (i + 1) through) c.args.maker z pair.0 pair.1 y
    (drop_more through i 0 c.loop-next-test.true) has.1 at_y has.2 turn)

pub returns-in-Some-matches : goal.returns-in-Some-matches
returns-in-Some-matches c = λ _.
    let accesses = c.args.self.now.accesses.now in
    let pair = c.in-Some-matches.field-0 in
    let at_z = sym c.in-Some.ensures in
    let ended : drop c.loop-next.next-index c.args.through.now ≡ [] =
    drop_of_length-le c.args.through.now (let past = c.loop-next-test.false in omega arith) in
    let same = one_access accesses c.args.maker pair.1 c.in-Some.access c.in-Some-matches.ensures.1 at_z in
    let before = subst (λ (a : Access). ComesBefore c.args.self.now.timed c.loop-next.place c.args.maker pair.0 a) same c.in-Some-matches.ensures.2 in (
      c.in-Some.access,
      at_z,
      sym c.is_making.ensures ∙ c.if-not-is_making.false,
      c.loop-next.invariant c.in-Some.access pair.0 at_z c.in-Some-matches.ensures.0
          (rw ended before),
    )
