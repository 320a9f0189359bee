pub mod GateCalls
pub mod Drives
pub mod HeardAs
pub mod InOrder
pub mod GateRests
pub mod DriverRounds
pub mod Fresh
pub mod Keeping
