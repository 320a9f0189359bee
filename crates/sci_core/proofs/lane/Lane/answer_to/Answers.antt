-- The older packets are looked at before the newer ones.
use Rattle.std.proofs.Common.{arith}
use Rattle.sci_core.proofs.Tidy.Seeking.{seek, seek_first, seek_second}
use Rattle.sci_core.proofs.lane.Lane.answer_to.Goals as goal

pub returns-in-Some : goal.returns-in-Some
returns-in-Some c = grind (arith, seek, seek_first)

pub returns-in-None : goal.returns-in-None
returns-in-None c = grind (arith, seek, seek_second)
