pub mod Recorded
pub mod Players
pub mod Runs
pub mod Turns
pub mod Deeds
pub mod Goings
pub mod Played
