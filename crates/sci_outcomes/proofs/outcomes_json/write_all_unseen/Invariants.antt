use Rattle.std.proofs.Common.{take}
use Rattle.std.specs.List.{flat_map}
use Rattle.sci_json.specs.Members.{Adds}
use Rattle.sci_outcomes.specs.OutcomesJson.{unseen_object}
use Rattle.sci_outcomes.proofs.outcomes_json.write_all_unseen.Given as goal

-- those so far
abbrev pub invariant-loop-row : goal.invariant-loop-row
invariant-loop-row l = Adds l.fn.out l.out (flat_map unseen_object (take l.row-index l.unseen))
