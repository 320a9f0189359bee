pub mod Calls
pub mod Driving
pub mod Resting
pub mod Rounds
pub mod Script
pub mod ScriptLogs
