-- What was taken stands behind what was written before.
use Rattle.std.proofs.{Common.{arith}, Math.Bool.{or-false}}
use Rattle.std.proofs.lemmas.{Bool.{ne_eqb}, List.{length-drop, take_all}}
use Rattle.sci_text.proofs.LogLines.{appends_on}
use Rattle.sci_text.proofs.writing.write_text.Goals as goal

pub writes-preserved : goal.writes-preserved
writes-preserved g c = grind (arith, take_all, length-drop, ne_eqb, or-false, appends_on)
