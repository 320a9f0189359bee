use Rattle.std.proofs.Common.{◌≡◌, ◌++◌, take}
use Rattle.std.specs.List.{flat_map}
use Rattle.sci_outcomes.specs.OutcomesAnswer.{row_text, unseen_text}
use Rattle.sci_outcomes.proofs.outcomes_report.whole_text.Given as goal

-- the rows so far
abbrev pub invariant-loop-row : goal.invariant-loop-row
invariant-loop-row l = l.text.items ≡ flat_map (row_text l.trials.turns) (take l.row-index l.rows)

-- all rows, and the others so far
abbrev pub invariant-loop-other : goal.invariant-loop-other
invariant-loop-other l = l.text.items ≡ flat_map (row_text l.trials.turns) l.rows ++ flat_map unseen_text (take l.other-index l.unseen)
