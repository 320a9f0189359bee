use Rattle.std.proofs.Common.{◌+◌, ◌<◌, ◌++◌, ◌∷◌, [], List, length, get_or, set, ap, sym, subst, arith}
use Rattle.sci_history.specs.{declared.entry.Entry.{Entry}, Placed.{log_of}}
use Rattle.sci_history.proofs.AuditFinds.{no_entry}
use Rattle.sci_windows.proofs.Turns.{AreTaken, all_taken, next_within, taken_next, taken_none}
use Rattle.sci_windows.proofs.back.in_turn.Goals.{After-of}
use Rattle.sci_windows.proofs.back.in_turn.Goals as goal

within : (c : After-of) → get_or c.loop-node.next (get_or c.args.nodes.now c.loop-node.node-index 0) 0
    < length (log_of c.args.logs.now (get_or c.args.nodes.now c.loop-node.node-index 0))
within c = grind (arith, next_within)

pub loop-node-init : goal.loop-node-init
loop-node-init c = taken_none c.args.logs.now c.args.nodes.now c.in_ok-made.made.items c.in_ok-made.ensures.items

pub bounds-of-place : goal.bounds-of-place
bounds-of-place c = grind (arith, within)

pub offset_bounds-of-place : goal.offset_bounds-of-place
offset_bounds-of-place c = grind (arith, within)

pub overflow_add-next : goal.overflow_add-next
overflow_add-next c =
    let is = ap length c.of.ensures.log in
    let lt = within (goal.at.overflow_add-next c).After-of in
    let fits = c.of.type_inv in
    omega arith

pub loop-node-preserved : goal.loop-node-preserved
loop-node-preserved c =
    let logs = c.args.logs.now in
    let nodes = c.args.nodes.now in
    let i = c.loop-node.node-index in
    let node = get_or nodes i 0 in
    let next = c.loop-node.next in
    let place = get_or next node 0 in
    let e = get_or c.of.result.now place no_entry in
    let step : AreTaken logs nodes (set next node (place + 1)) (i + 1) (c.loop-node.made.items ++ e ∷ []) =
    taken_next logs nodes next i c.loop-node.made.items e c.of.ensures.own c.loop-node-test.true (c.requires.known i 0 c.loop-node-test.true)
    (within (goal.at.loop-node-preserved c).After-of) (ap (λ (log : List Entry). get_or log place no_entry) c.of.ensures.log) c.loop-node.invariant in
    subst (AreTaken logs nodes (set next node (place + 1)) (i + 1)) (sym c.in_ok-push.ensures.items) step

pub returns-clause-own : goal.returns-clause-own
returns-clause-own c = grind (arith, all_taken)
