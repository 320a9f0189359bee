-- Numbers and sizes that stay within their limits.
-- Each row of the tables makes identifiers of nodes from identifiers of nodes (`Identifiers`), and enters a line only into a free
-- slot (`Slots`). So each side of an event leaves its node's part well formed and sends a well formed packet (`Parts`), and each
-- step leaves the state so (`WellFormedSteps`). In every reached state words are below 2^64, and versions no more than the
-- operations that may be issued (`Ranges`).
pub mod Identifiers
pub mod Slots
pub mod Parts
pub mod WellFormedSteps
pub mod Ranges
