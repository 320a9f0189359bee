pub mod Bodies
pub mod Fields
pub mod FromWords
pub mod Headers
pub mod Packets
pub mod Whole
pub mod WordLaws
