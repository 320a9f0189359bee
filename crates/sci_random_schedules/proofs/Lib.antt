pub mod RandomWalks
pub mod QuickLooks
pub mod Walks
pub mod Possible
