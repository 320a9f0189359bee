use Rattle.std.proofs.Common.{length}
use Rattle.sci_judge.specs.Access.{AreKnown}
use Rattle.sci_axe.specs.Trace.{known_in}
use Rattle.sci_axe.proofs.Lines.{IsReadTo}
use Rattle.sci_axe.proofs.reading.trace_of.Given as goal

-- the lines so far
abbrev pub invariant-loop-rest : goal.invariant-loop-rest
invariant-loop-rest l = record {
  read : IsReadTo l.input l.rest l.number l.trace.accesses.items (known_in l.trace);
  known : AreKnown l.trace.accesses.items;
}

abbrev pub decreases-loop-rest : goal.decreases-loop-rest
decreases-loop-rest l = length l.rest
