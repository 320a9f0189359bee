-- First come, first served.
-- The list of a line is a queue: each row of the tables lets a node in at its end, or takes the first away, or leaves the members
-- before the one that leads (`Turns`). So of every step and of every schedule, the first of those who wait becomes the authority
-- (`TurnSteps`).
pub mod Turns
pub mod TurnSteps
