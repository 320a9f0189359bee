-- What the structs of the C interface say.
pub mod Dead
pub mod Entry
pub mod LineStates
pub mod Obstacle
pub mod Operation
pub mod Packet
pub mod Saying
pub mod Seen
pub mod Stamped
pub mod Verdict
pub mod Want
