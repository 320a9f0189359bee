-- Some standing of the level has a step.
use Rattle.std.proofs.Common.{Option, refl, sym, subst, arith}
use Rattle.std.specs.Prelude.{IfSome}
use Rattle.sci_words.specs.declared.event.Event.{Event}
use Rattle.sci_orders.proofs.Ways.{holds_at, item_at, none_holds}
use Rattle.sci_orders.specs.Positions.{Fits, IsStep, lists_of, position_of}
use Rattle.sci_orders.specs.{Ways.{IsStepBy}, declared.standing.Standing.{Standing}}
use Rattle.sci_orders.proofs.orders.Orders.back_from.Goals as goal

pub event_between-requires-clause-fits : goal.event_between-requires-clause-fits
event_between-requires-clause-fits c =
    holds_at (Fits (lists_of c.args.self.now.operations.now)) c.args.level.now c.loop-place.place c.index-level-place.result c.loop-place-test.true
    c.index-level-place.is c.requires.fits

pub returns-in-Some : goal.returns-in-Some
returns-in-Some c =
    let operations = lists_of c.args.self.now.operations.now in
    let window = c.args.self.now.window in
    let to = position_of c.args.to.now in
    let place = c.loop-place.place in
    let step = subst (λ (found : Option Event). IfSome found (IsStepBy operations window (position_of c.index-level-place.result) to)) c.in-Some.is
    c.in_ok-event.ensures.some in (
      c.loop-place-test.true,
      λ d. subst (λ (s : Standing). IsStepBy operations window (position_of s) to c.in-Some.event)
          (sym (item_at c.args.level.now place place c.index-level-place.result d c.loop-place-test.true refl c.index-level-place.is)) step,
    )

pub unreachable-requires : goal.unreachable-requires
unreachable-requires c =
    let some = c.requires.some in
    let end = c.loop-place-test.false in
    none_holds (λ p. IsStep (lists_of c.args.self.now.operations.now) c.args.self.now.window p (position_of c.args.to.now)) c.args.level.now
    (λ k d low. c.loop-place.invariant k d (omega arith)) some.0 some.1 some.2
