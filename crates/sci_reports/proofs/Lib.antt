pub mod Answered
pub mod Checked
mod FoundOnLines
mod Orders
mod Places
pub mod EntriesOn
pub mod FoundEntries
pub mod MadeWords
mod Wants
