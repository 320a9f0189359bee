pub mod Members
pub mod Parts
