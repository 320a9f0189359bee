pub mod Choice
pub mod CommandAnswer
