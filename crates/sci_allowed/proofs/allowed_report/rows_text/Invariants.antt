use Rattle.std.proofs.Common.{◌≡◌, take}
use Rattle.std.specs.List.{flat_map}
use Rattle.sci_allowed.specs.AllowedAnswer.{row_text}
use Rattle.sci_allowed.proofs.allowed_report.rows_text.Given as goal

-- the rows so far
abbrev pub invariant-loop-row : goal.invariant-loop-row
invariant-loop-row l = l.text.items ≡ flat_map row_text (take l.row-index l.rows)
