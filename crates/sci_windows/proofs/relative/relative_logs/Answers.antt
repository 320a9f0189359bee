use Rattle.std.proofs.Common.{◌≡◌, ℕ, List, [], length, map, length-set, ◌∙◌, ap, arith}
use Rattle.sci_history.specs.{declared.entry.Entry.{Entry}, Placed.{log_of}}
use Rattle.sci_windows.specs.Relative.{relative_entry}
use Rattle.sci_windows.proofs.Loops.{logs_are, own_log, set_next}
use Rattle.sci_windows.proofs.relative.relative_logs.Goals as goal

pub put-requires-clause-own : goal.put-requires-clause-own
put-requires-clause-own c = grind (arith, own_log)

pub loop-node-preserved : goal.loop-node-preserved
loop-node-preserved c =
    let made = c.loop-node.made in
    let at = c.loop-node.node in
    let items = c.in_ok-log.log.items in
    let is : items ≡ map (relative_entry c.args.first.now) (log_of c.args.logs.now at) =
    c.in_ok-log.ensures ∙ ap (map (relative_entry c.args.first.now)) c.of.ensures.log in
    record {
      sixteen = ap length c.put.ensures ∙ length-set made at items ∙ c.loop-node.invariant.sixteen;
      made = λ node lt. ap (λ (ls : List (List Entry)). log_of ls node) c.put.ensures
          ∙ set_next made at items [] (λ (n : ℕ). map (relative_entry c.args.first.now) (log_of c.args.logs.now n)) (omega arith) is
          c.loop-node.invariant.made node lt;
    }

pub returns-clause-logs : goal.returns-clause-logs
returns-clause-logs c = grind (arith, logs_are)
