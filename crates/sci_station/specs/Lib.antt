pub mod Budgets
pub mod Ends
pub mod OneLog
pub mod Posts
pub mod Station
pub mod Deeds
