-- Each log is sorted by itself.
use Rattle.std.proofs.Common.{◌≡◌, length, map, sym, ap, ◌∙◌, arith}
use Rattle.std.proofs.lemmas.Bool.{cases_eq}
use Rattle.std.proofs.lemmas.List.{map-set, length-map, length-set, get_or-map, get_or-set_same, get_or-set_other}
use Rattle.std.specs.Global.{Vec}
use Rattle.sci_words.specs.declared.limits.TheConstants.{MAX_NODES}
use Rattle.sci_history.specs.{declared.entry.Entry.{Entry}, Sequential.{by_serial}}
use Rattle.sci_history.proofs.SerialOrder.{own_sorted, all_logs_sorted}
use Rattle.sci_history.proofs.logs.Logs.by_serial.Goals as goal

pub loop-node-preserved : goal.loop-node-preserved
loop-node-preserved c = grind (arith, length-map, get_or-map, length-set, map-set, cases_eq, get_or-set_same, get_or-set_other)

pub returns : goal.returns
returns c = grind (arith, length-map, all_logs_sorted)

pub invariant_of-result : goal.invariant_of-result
invariant_of-result c =
    let items = λ (log : Vec Entry). log.items in
    let sixteen : length c.args.self.now ≡ MAX_NODES = ap length (sym c.self.view_is) ∙ length-map c.self.inside.lists items ∙ c.self.invariant.0 in
    let whole : map items c.loop-node.lists ≡ by_serial c.args.self.now =
    all_logs_sorted c.args.self.now (map items c.loop-node.lists)
    (length-map c.loop-node.lists items ∙ c.loop-node.invariant.sixteen ∙ sym sixteen) (λ node below. c.loop-node.invariant.sorted node (omega arith)) in
    (c.loop-node.invariant.sixteen, rw whole (own_sorted c.args.self.now (rw (← c.self.view_is) c.self.invariant.1)))
