use Rattle.std.proofs.Common.{take}
use Rattle.sci_allowed.specs.Outcome.{IsWritten}
use Rattle.sci_allowed.proofs.place.written_words.Given as goal

-- the words of the operations so far
abbrev pub invariant-loop-op : goal.invariant-loop-op
invariant-loop-op l = IsWritten (take l.op-index l.operations) l.written
