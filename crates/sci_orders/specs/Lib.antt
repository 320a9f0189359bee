pub mod Plain
pub mod Witness
pub mod Positions
pub mod Eager
pub mod Ways
pub mod Orders
