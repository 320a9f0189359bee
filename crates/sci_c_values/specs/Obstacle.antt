-- The numbers of what can stand in an event's way.
use Rattle.std.specs.Prelude.{ℕ, Option, Some, None}
use Rattle.sci_core.specs.declared.obstacle.Obstacle.{Obstacle}
use Rattle.sci_core.specs.declared.obstacle.Obstacle.TheVariants.{NoSuchNode, NoSuchSender, NoSuchLine, NoSuchWord, AlreadyPending, NoIssueLeft}
use Rattle.sci_core.specs.declared.obstacle.Obstacle.TheVariants.{NothingPending, NotAllowed, NotAsked, NoSlot, NothingUnderWay, AnswerWaits, SetbackComes}
use Rattle.sci_core.specs.declared.obstacle.Obstacle.TheVariants.{NoAnswerWaits}

abbrev pub obstacle_number : Option Obstacle → ℕ
obstacle_number None = 0
obstacle_number (Some NoSuchNode) = 1
obstacle_number (Some NoSuchSender) = 2
obstacle_number (Some NoSuchLine) = 3
obstacle_number (Some NoSuchWord) = 4
obstacle_number (Some AlreadyPending) = 5
obstacle_number (Some NoIssueLeft) = 6
obstacle_number (Some NothingPending) = 7
obstacle_number (Some NotAllowed) = 8
obstacle_number (Some NotAsked) = 9
obstacle_number (Some NoSlot) = 10
obstacle_number (Some NothingUnderWay) = 11
obstacle_number (Some AnswerWaits) = 12
obstacle_number (Some SetbackComes) = 13
obstacle_number (Some NoAnswerWaits) = 14
