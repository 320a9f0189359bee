pub mod Posts
pub mod Moves
pub mod Idle
pub mod Whole
