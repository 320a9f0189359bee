use Rattle.std.proofs.Common.{take}
use Rattle.std.specs.List.{flat_map}
use Rattle.sci_json.specs.Members.{Adds}
use Rattle.sci_reports.specs.ExplainJson.{finding_object}
use Rattle.sci_reports.proofs.explain_json.write_all_findings.Given as goal

-- what was found so far
abbrev pub invariant-loop-finding : goal.invariant-loop-finding
invariant-loop-finding l = Adds l.fn.out l.out (flat_map finding_object (take l.finding-index l.findings))
