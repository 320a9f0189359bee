pub mod Chosen
pub mod Naming
pub mod WalkWords
