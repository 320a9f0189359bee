pub mod Lines
pub mod Scan
pub mod Policy
pub mod Rest
pub mod Turn
pub mod Worker
pub mod Deeds
