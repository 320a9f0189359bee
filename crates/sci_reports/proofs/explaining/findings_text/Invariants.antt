use Rattle.std.proofs.Common.{◌≡◌, take}
use Rattle.std.specs.List.{flat_map}
use Rattle.sci_reports.specs.NoteText.{finding_text}
use Rattle.sci_reports.proofs.explaining.findings_text.Given as goal

-- the findings so far
abbrev pub invariant-loop-finding : goal.invariant-loop-finding
invariant-loop-finding l = l.text.items ≡ flat_map finding_text (take l.finding-index l.findings)
