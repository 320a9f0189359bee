pub mod LastWords
