-- What each command writes for its input, and how it ends.
use Rattle.std.specs.Prelude.{◌≡◌, ℕ, Bool, List, Option, None}
use Rattle.sci_core.specs.declared.dead.DeadEvents.{DeadEvents}
use Rattle.scimem.specs.{declared.choice.Command.{Command}, Decoding.{IsDecodedBeside}}
use Rattle.scimem.specs.{LogAnswer.{IsAuditAnswer, IsUpgradeAnswer}, OracleAnswer.{IsOracleAnswer}}
use Rattle.scimem.specs.{ReplayAnswer.{IsReplayAnswer}, ThreadsAnswer.{IsThreadsAnswer}}
use Rattle.sci_command.specs.{Answer.{IsAnswerBeside}, Beginning.{AreDeadBeside}, declared.{outcome.Outcome.{Outcome}, refusal.Refusal.{Refusal}}}
use Rattle.scimem.specs.declared.choice.Command.TheVariants as commands

-- the text that a command writes, and how it ends, for the bytes of a reader, which has failed or not; beside the refusal that
-- is told of, if the input is refused
abbrev pub IsToldOf : Command → Option Refusal → Option (List ℕ) → Bool → List ℕ → Outcome → Type 0
IsToldOf commands.Oracle = IsAnswerBeside IsOracleAnswer
IsToldOf commands.Replay = IsAnswerBeside IsReplayAnswer
IsToldOf (commands.Threads turns) = IsAnswerBeside (IsThreadsAnswer turns)
IsToldOf commands.Decode = IsDecodedBeside
IsToldOf commands.Audit = IsAnswerBeside IsAuditAnswer
IsToldOf commands.Upgrade = IsAnswerBeside IsUpgradeAnswer

-- the events that weren't enabled of which standard error says so: those of the schedule of `replay`, and of no other command
abbrev pub AreDeadOf : Command → Option (List ℕ) → Bool → Option Refusal → Option DeadEvents → Type 0
AreDeadOf commands.Replay known failed refusal dead = AreDeadBeside known failed refusal dead
AreDeadOf command known failed refusal dead = dead ≡ None
