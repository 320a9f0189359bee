use Rattle.std.proofs.Common.{take}
use Rattle.std.specs.List.{flat_map}
use Rattle.sci_json.specs.Members.{Adds}
use Rattle.sci_outcomes.specs.OutcomesJson.{held_object}
use Rattle.sci_outcomes.proofs.outcomes_json.write_all_held.Given as goal

-- those so far
abbrev pub invariant-loop-held : goal.invariant-loop-held
invariant-loop-held l = Adds l.fn.out l.out (flat_map held_object (take l.held-index l.words))
