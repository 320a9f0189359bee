pub mod Stretches
pub mod Versions
