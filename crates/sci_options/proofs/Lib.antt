pub mod Finds
pub mod Fronts
pub mod Items
pub mod Steps
pub mod Values
