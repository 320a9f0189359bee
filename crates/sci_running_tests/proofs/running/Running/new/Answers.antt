use Rattle.std.proofs.Common.{map, sym, subst}
use Rattle.std.specs.List.{range_with_len}
use Rattle.sci_core.specs.Size.{Size, size_of}
use Rattle.sci_lanes.specs.{Ends.{opening_ends}, Gathering.{AreOf}}
use Rattle.sci_station.specs.Station.{end_in, opening_station}
use Rattle.sci_station.proofs.Belonging.{opened_of}
use Rattle.sci_running_tests.proofs.running.Running.new.Goals as goal

pub invariant_of-result : goal.invariant_of-result
invariant_of-result c =
    let f = c.in_ok-fabric.fabric in
    subst (λ xs. AreOf f (map end_in xs)) (sym c.in_ok-fabric.ensures.stations)
    (subst (λ (size : Size). AreOf (record { table = f.table; size = size })
    (map end_in (map opening_station (opening_ends f.table (size_of c.args.extent c.clamp.result) c.args.extent.nodes)))) (sym c.in_ok-fabric.ensures.size)
    (opened_of f.table (size_of c.args.extent c.clamp.result) (range_with_len 0 c.args.extent.nodes)))
