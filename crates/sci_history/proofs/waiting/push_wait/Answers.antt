use Rattle.std.proofs.Common.{◌∷◌, [], append_assoc, get_or, length, ap, arith}
use Rattle.sci_history.specs.declared.order_verdict.{Step.{Step}}
use Rattle.sci_history.proofs.AuditFinds.{no_entry}
use Rattle.sci_history.proofs.Waits.{begins_at, behind_at, blocker_below, leads_one, leads_two, never_free}
use Rattle.sci_history.proofs.waiting.push_wait.Goals as goal

pub unreachable-requires : goal.unreachable-requires
unreachable-requires c = grind (arith, never_free)

pub offset_bounds-of-found : goal.offset_bounds-of-found
offset_bounds-of-found c = grind (arith, blocker_below)

pub bounds-of-found : goal.bounds-of-found
bounds-of-found c = grind (arith, blocker_below)

pub returns-in_ok-push-2-clause-left : goal.returns-in_ok-push-2-clause-left
returns-in_ok-push-2-clause-left c = grind (arith, blocker_below)

pub returns-else-next-found-clause-left : goal.returns-else-next-found-clause-left
returns-else-next-found-clause-left c = grind (arith, blocker_below)

pub returns-in_ok-push-2-clause-leads : goal.returns-in_ok-push-2-clause-leads
returns-in_ok-push-2-clause-leads c = grind (arith, begins_at, no_entry, blocker_below, behind_at, append_assoc, leads_two)

pub returns-else-next-found-clause-leads : goal.returns-else-next-found-clause-leads
returns-else-next-found-clause-leads c =
    let log = ap length c.of.ensures.log in
    let place = get_or c.args.next.now c.args.node 0 in
    let x : Step = record { entry = get_or c.of.result.now place no_entry; place = place; reason = c.in-Some.found.reason } in
    let begins = begins_at c.args.logs.now c.args.next.now c.args.node c.of.result.now c.in-Some.found.reason c.of.ensures.own c.of.ensures.log
    (omega (arith, c.requires.left, log)) in (
      x ∷ [],
      c.in_ok-push.ensures.items,
      leads_one c.args.logs.now c.args.next.now c.args.node c.in-Some.found.node c.in-Some.found.place x begins c.in-Some.ensures.found
          (λ lt. let le = c.if-next-found.false in omega arith),
    )
