use Rattle.std.proofs.Common.{map, sym, subst}
use Rattle.std.specs.List.{range_with_len}
use Rattle.sci_core.specs.Size.{Size, size_of}
use Rattle.sci_lanes.specs.{Ends.{opening_ends}, Gathering.{AreOf}}
use Rattle.sci_station.proofs.Belonging.{opened_ends}
use Rattle.sci_running_tests.proofs.by_hand.ByHand.new.Goals as goal

pub invariant_of-result : goal.invariant_of-result
invariant_of-result c =
    let l = c.in_ok-lanes.lanes in
    subst (λ xs. AreOf l (map (λ end. end) xs)) (sym c.in_ok-lanes.ensures.ends)
    (subst (λ (size : Size). AreOf (record { table = l.table; size = size })
    (map (λ end. end) (opening_ends l.table (size_of c.args.extent c.clamp.result) c.args.extent.nodes))) (sym c.in_ok-lanes.ensures.size)
    (opened_ends l.table (size_of c.args.extent c.clamp.result) (range_with_len 0 c.args.extent.nodes)))
