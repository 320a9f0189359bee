-- A bounded list of events performs all that is pending.
-- Each event that moves a packet on lowers a weight, and while it is above 0 one is enabled (`Drains`, `Moves`). Then nothing is
-- under way (`Resting`), and a round of four events is enabled (`Rounds`, `RoundSteps`, `Shifts`). Each round that is next lowers
-- the number of those left (`Ranks`, `Emptying`, `EmptyRuns`), until each home has its line alone. Then each operation takes one
-- read, itself and one write-back (`PendingRuns`). `Leading`, `Rest` and `GoingOn` say what such lists lead to.
pub mod Rest
pub mod GoingOn
pub mod Drains
pub mod Leading
pub mod Moves
pub mod Shifts
pub mod Rounds
pub mod RoundSteps
pub mod Resting
pub mod Ranks
pub mod Emptying
pub mod EmptyRuns
pub mod PendingRuns
