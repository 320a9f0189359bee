pub mod Answers
pub mod Finished
pub mod Refusals
pub mod Written
pub mod Printed
pub mod Joined
pub mod Names
