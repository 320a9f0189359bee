use Rattle.std.proofs.Common.{take}
use Rattle.std.specs.List.{flat_map}
use Rattle.sci_json.specs.Members.{Adds}
use Rattle.sci_statistics.specs.StatsJson.{pair_object}
use Rattle.sci_statistics.proofs.stats_json.write_pairs.Given as goal

-- the pairs so far
abbrev pub invariant-loop-pair : goal.invariant-loop-pair
invariant-loop-pair l = Adds l.fn.out l.out (flat_map (pair_object l.coverage) (take l.pair-index l.pairs))
