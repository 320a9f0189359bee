pub mod Shares
pub mod Slices
