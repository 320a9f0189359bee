use Rattle.std.proofs.Common.{take}
use Rattle.std.specs.List.{flat_map}
use Rattle.sci_json.specs.Members.{Adds}
use Rattle.sci_outcomes.specs.OutcomesJson.{replied_object}
use Rattle.sci_outcomes.proofs.outcomes_json.write_all_replied.Given as goal

-- those so far
abbrev pub invariant-loop-replied : goal.invariant-loop-replied
invariant-loop-replied l = Adds l.fn.out l.out (flat_map replied_object (take l.replied-index l.replies))
