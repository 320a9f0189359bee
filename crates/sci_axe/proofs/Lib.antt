pub mod Parts
pub mod Lines
pub mod Appends
pub mod Logs
pub mod CycleLines
