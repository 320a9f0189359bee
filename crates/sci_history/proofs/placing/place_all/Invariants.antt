use Rattle.std.proofs.Common.{◌-◌, length}
use Rattle.sci_history.specs.{Audit.{entries_of}, Placing.{IsPlacing, all_of, rests_of}}
use Rattle.sci_history.proofs.placing.place_all.Given as goal

abbrev pub invariant-loop-placing : goal.invariant-loop-placing
invariant-loop-placing l = IsPlacing l.logs (length l.loads) l.placing.lines (rests_of l.logs l.placing.next) (entries_of l.placing.order.items)

-- each round but the last places an entry
abbrev pub decreases-loop-placing : goal.decreases-loop-placing
decreases-loop-placing l = length (all_of l.logs) - length l.placing.order.items
