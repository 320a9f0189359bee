use Rattle.std.proofs.Common.{◌≡◌, ◌++◌, filter, map, take}
use Rattle.sci_statistics.specs.Transitions.{in_state, is_of_tables}
use Rattle.sci_statistics.proofs.tables.push_in_states.Given as goal

-- the states so far
abbrev pub invariant-loop-state : goal.invariant-loop-state
invariant-loop-state l = l.out.items ≡ l.fn.out.items ++ filter is_of_tables (map (in_state l.met) (take l.state-index l.states))
