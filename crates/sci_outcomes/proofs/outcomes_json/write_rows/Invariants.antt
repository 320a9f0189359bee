use Rattle.std.proofs.Common.{take}
use Rattle.std.specs.List.{flat_map}
use Rattle.sci_json.specs.Members.{Adds}
use Rattle.sci_outcomes.specs.OutcomesJson.{row_object}
use Rattle.sci_outcomes.proofs.outcomes_json.write_rows.Given as goal

-- those so far
abbrev pub invariant-loop-row : goal.invariant-loop-row
invariant-loop-row l = Adds l.fn.out l.out (flat_map (row_object l.turns) (take l.row-index l.rows))
