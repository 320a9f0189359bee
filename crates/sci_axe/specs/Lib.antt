pub mod Notation
pub mod Line
pub mod Trace
pub mod Parts
pub mod Telling
pub mod JudgeAnswer
