mod Sent
mod Traced
pub mod EventEffects
pub mod Listed
pub mod JsonOutcomes
