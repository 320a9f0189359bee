pub mod Words
pub mod Written
pub mod Cycles
pub mod Traces
