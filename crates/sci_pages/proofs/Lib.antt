pub mod Paged
pub mod Answering
pub mod Said
