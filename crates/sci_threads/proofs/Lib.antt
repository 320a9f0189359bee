pub mod RunStations
pub mod Going
pub mod DrivenNodes
pub mod Openly
