-- Packets under way: each node that waits about a line has one, and no other node has any.
-- Each row says who waits, and for which request (`RowWaits`), so each side of an event moves the waits of one node
-- (`WaitingNodes`) just as it moves its packet (`PacketMoves`). Hence every step, and every run, stays tidy (`TidySteps`, `TidyRuns`).
-- How far a transaction is can be read off its packet, so transactions alternate (`Transactions`). What comes by a lane can be
-- taken (`Enabled`), there is little under way, in all and to one node (`Burdens`, `Queues`), and the one answer is found (`Seeking`, `Answering`).
pub mod Seeking
pub mod PacketMoves
pub mod RowWaits
pub mod WaitingNodes
pub mod TidySteps
pub mod Overtaking
pub mod TidyRuns
pub mod Transactions
pub mod Enabled
pub mod Burdens
pub mod Queues
pub mod Answering
