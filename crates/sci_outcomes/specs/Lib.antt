pub mod Outcomes
pub mod Rows
pub mod Trials
pub mod RunAnswer
pub mod Said
pub mod OutcomesJson
pub mod OutcomesAnswer
