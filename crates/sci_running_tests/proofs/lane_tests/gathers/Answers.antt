use Rattle.std.proofs.Common.{List, map, sym, subst}
use Rattle.sci_lanes.specs.{Ends.{EndOf, LanesOf}, Gathering.{AreOf}}
use Rattle.sci_running_tests.proofs.lane_tests.gathers.Goals as goal

pub gather-requires-2 : goal.gather-requires-2
gather-requires-2 c =
    let back = c.in-Err-Memory-default-default.ensures in
    record {
      own = subst (λ (l : LanesOf). AreOf l (map (λ end. end) c.in-Err-Memory-default-default.ends.items)) (sym back.lanes)
          (subst (λ (es : List EndOf). AreOf c.args.lanes (map (λ end. end) es)) (sym back.ends) c.requires.own);
    }
