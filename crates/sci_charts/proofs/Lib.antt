pub mod Drawn
pub mod Ended
