use Rattle.std.proofs.Common.{◌≡◌, ◌++◌}
use Rattle.std.specs.List.{All}
use Rattle.sci_judge.specs.Judgement.{IsExplainedAt, addresses_of}
use Rattle.sci_judge.proofs.judging.judge.Given as goal

-- the addresses so far are explained, and the others come
abbrev pub invariant-loop-at : goal.invariant-loop-at
invariant-loop-at l = record {
  parted : addresses_of l.explained.items ++ l.at-iterator ≡ l.initial.at-iterator;
  each : All (IsExplainedAt l.way.timed l.trace) l.explained.items;
}
