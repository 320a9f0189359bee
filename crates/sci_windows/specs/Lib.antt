pub mod CutOff
pub mod Fault
pub mod Order
pub mod Relative
pub mod Scoreboard
pub mod Window
