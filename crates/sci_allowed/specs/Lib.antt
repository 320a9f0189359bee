pub mod Outcome
pub mod Allowed
pub mod OutcomeText
pub mod Condition
pub mod Conditioned
pub mod Verdict
pub mod AllowedAnswer
