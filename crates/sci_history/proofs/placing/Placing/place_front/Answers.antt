use Rattle.std.proofs.Common.{◌≡◌, ℕ, ◌+◌, List, get_or, set, length, refl, sym, ap, subst, arith}
use Rattle.sci_words.specs.declared.limits.TheConstants.{MAX_NODES, MAX_LINES}
use Rattle.sci_history.specs.{declared.{entry.Entry.{Entry}, placing.LineState.{LineState}}, Audit.{entries_of}}
use Rattle.sci_history.specs.Placing.{CanFollow, IsPlacing, rests_of, state_of, state_after}
use Rattle.sci_history.proofs.AuditFinds.{no_entry}
use Rattle.sci_history.proofs.PlaceSteps.{IsFrontRead, counts_long, counts_read, entries_pushed, front_read, front_placed, load_counted}
use Rattle.sci_history.proofs.{Rests.{none_at}, placing.Placing.place_front.Goals.{Else-place-log}}
use Rattle.sci_history.proofs.placing.Placing.place_front.Goals as goal

pub returns-then-place-log-clause-stuck : goal.returns-then-place-log-clause-stuck
returns-then-place-log-clause-stuck c e = grind (arith, none_at)

-- the entry that is left first, where there is one
at_front : (c : Else-place-log) → IsFrontRead c.args.logs.now c.args.loads.now c.args.self.now.next c.args.node c.of-log.result.now
at_front c =
    front_read c.args.logs.now c.args.loads.now c.args.self.now.lines c.args.self.now.next (entries_of c.args.self.now.order.items) c.args.node
    c.of-log.result.now c.requires.orderable c.requires.placing c.requires.node c.of-log.ensures.log c.if-place-log.false

pub bounds-self-line : goal.bounds-self-line
bounds-self-line c = omega (arith, counts_long c.args.loads.now, (at_front (goal.at.bounds-self-line c).Else-place-log).is.within, c.requires.few)

pub returns-then-not-can_take-clause-stuck : goal.returns-then-not-can_take-clause-stuck
returns-then-not-can_take-clause-stuck c e = (
  refl,
  λ entry rest front can.
      let read = at_front (goal.at.returns-then-not-can_take-clause-stuck c).Else-place-log in
      let left = read.left in
      let here : entry ≡ get_or c.of-log.result.now (get_or c.args.self.now.next c.args.node 0) no_entry = cc in
      let may = c.can_take.ensures.1 (subst (λ (x : Entry). CanFollow (state_of c.args.self.now.lines x.op.line) x) here can) in
      let cannot = c.if-not-can_take.true in
      cc,
)

pub bounds-loads-line : goal.bounds-loads-line
bounds-loads-line c = omega (arith, counts_long c.args.loads.now, (at_front (goal.at.bounds-loads-line c).Else-place-log).is.within)

pub after-requires-clause-maker : goal.after-requires-clause-maker
after-requires-clause-maker c maker =
    let long_loads = counts_long c.args.loads.now in
    let front = at_front (goal.at.after-requires-clause-maker c).Else-place-log in
    let inside = front.is.within in
    let version = front.is.version in
    let long = (c.requires.orderable.counts _ inside).long in
    let counts = ap (λ (cs : List ℕ). length cs)
    (counts_read c.args.loads.now _ _ c.index-loads-line.result c.deref.result.now (omega arith) c.index-loads-line.is c.deref.ensures.value) in
    omega arith

pub after-requires-clause-load : goal.after-requires-clause-load
after-requires-clause-load c load =
    let front = at_front (goal.at.after-requires-clause-load c).Else-place-log in
    load_counted _ c.args.loads.now c.args.self.now.lines _ (entries_of c.args.self.now.order.items) c.args.node _ _ c.requires.placing c.requires.node front
    (c.can_take.ensures.0 c.if-not-can_take.false) load

pub returns-clause-placing : goal.returns-clause-placing
returns-clause-placing c =
    let lines : length c.args.self.now.lines ≡ MAX_LINES = omega arith in
    let next : length c.args.self.now.next ≡ MAX_NODES = omega arith in
    let long_loads = counts_long c.args.loads.now in
    let front = at_front (goal.at.returns-clause-placing c).Else-place-log in
    let inside = front.is.within in
    let entry = get_or c.of-log.result.now (get_or c.args.self.now.next c.args.node 0) no_entry in
    let counts = counts_read c.args.loads.now _ _ c.index-loads-line.result c.deref.result.now (omega arith) c.index-loads-line.is c.deref.ensures.value in
    let placed = front_placed c.args.logs.now c.args.loads.now c.args.self.now.lines c.args.self.now.next (entries_of c.args.self.now.order.items) c.args.node
    entry lines next c.requires.few c.requires.node c.requires.placing front (c.can_take.ensures.0 c.if-not-can_take.false) c.deref.result.now counts in
    let moved = rests_of c.args.logs.now (set c.args.self.now.next c.args.node (get_or c.args.self.now.next c.args.node 0 + 1)) in
    subst (λ (s : LineState). IsPlacing c.args.logs.now (length c.args.loads.now) (set c.args.self.now.lines entry.op.line s) moved
    (entries_of c.push.new.self.items)) (sym c.after.ensures)
    (subst (λ (order : List Entry).
    IsPlacing c.args.logs.now (length c.args.loads.now)
    (set c.args.self.now.lines entry.op.line (state_after c.deref.result.now (state_of c.args.self.now.lines entry.op.line) entry)) moved order)
    (sym (entries_pushed c.args.self.now.order.items c.push.new.self.items _ entry c.in_ok-push.ensures.items refl)) placed)
