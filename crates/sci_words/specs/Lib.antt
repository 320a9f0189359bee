pub mod Event
pub mod Extent
pub mod Operation
pub mod Stamped
