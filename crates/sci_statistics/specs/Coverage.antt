-- How often each transition came.
use Rattle.std.specs.Prelude.{ℕ, min, slice_index_or}
use Rattle.sci_statistics.specs.declared.{coverage.Coverage.{Coverage}, transition.Transition.{Transition}}
use Rattle.sci_statistics.specs.Transitions.{transition_place}

-- a count, which ends at the greatest number of 64 bits
abbrev pub capped : ℕ → ℕ
capped n = min n 0xffff_ffff_ffff_ffff

-- how often a transition came
abbrev pub times : Coverage → Transition → ℕ
times coverage t = slice_index_or coverage.counts (transition_place t) 0
