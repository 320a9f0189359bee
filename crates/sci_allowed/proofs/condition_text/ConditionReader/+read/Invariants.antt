use Rattle.std.proofs.Common.{◌+◌, ◌-◌, ◌*◌, length}
use Rattle.sci_allowed.specs.Condition.{rank}
use Rattle.sci_allowed.proofs.condition_text.ConditionReader.+read.Given as goal

-- what is left, and how often it is still read at its front
abbrev pub decreases-read : goal.decreases-read
decreases-read l = 3 * length l.bytes.now + (2 - rank l.least)
