use Rattle.std.proofs.Common.{◌≡◌, ◌++◌, filter, take}
use Rattle.std.specs.List.{flat_map}
use Rattle.sci_statistics.specs.Transitions.{in_states, is_of_tables}
use Rattle.sci_statistics.proofs.tables.push_pairs.Given as goal

-- what is met so far
abbrev pub invariant-loop-met : goal.invariant-loop-met
invariant-loop-met l = l.out.items ≡ l.fn.out.items ++ filter is_of_tables (flat_map in_states (take l.met-index l.mets))
