pub mod Cells
pub mod Shown
pub mod Knowing
pub mod Telling
pub mod Plays
pub mod Ends
pub mod Gathering
