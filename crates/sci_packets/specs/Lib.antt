pub mod Fault
pub mod Fields
pub mod Spelling
pub mod Table
