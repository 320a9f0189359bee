use Rattle.std.proofs.Common.{take}
use Rattle.std.specs.List.{flat_map}
use Rattle.sci_json.specs.Members.{Adds}
use Rattle.sci_reports.specs.ExplainJson.{numbered_object}
use Rattle.sci_reports.proofs.explain_json.write_all_numbered.Given as goal

-- the entries so far
abbrev pub invariant-loop-it : goal.invariant-loop-it
invariant-loop-it l = Adds l.fn.out l.out (flat_map numbered_object (take l.it-index l.shown))
