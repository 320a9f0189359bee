pub mod Choice
pub mod CommandAnswer
pub mod Decoding
pub mod OracleAnswer
pub mod ReplayAnswer
pub mod LogAnswer
pub mod ThreadsAnswer
