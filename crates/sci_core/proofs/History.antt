-- Operations, logs and the history of each line.
-- An Issue puts an operation where it is pending, and a Perform puts its entry at the end of the log (`Pendings`, `Performable`).
-- Serials rise (`Works`). Each operation takes effect on its line's last contents, so the entries of a schedule on a line are the
-- line's history, and the logs are theirs (`ScheduleHistories`). A node with one operation pending at a time logs them in order
-- (`InTurn`).
pub mod Works
pub mod ScheduleHistories
pub mod Pendings
pub mod Performable
pub mod InTurn
