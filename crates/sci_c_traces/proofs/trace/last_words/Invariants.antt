use Rattle.std.proofs.Common.{take}
use Rattle.std.specs.{BTreeMap.{get}, Ordering.{nat_cmp}}
use Rattle.sci_c_traces.specs.Trace.{AreLastWords}
use Rattle.sci_c_traces.proofs.trace.last_words.Given as goal

-- those of the structs so far
abbrev pub invariant-loop-last : goal.invariant-loop-last
invariant-loop-last l = AreLastWords (take l.last-index l.structs) (λ at. get nat_cmp l.words at)
