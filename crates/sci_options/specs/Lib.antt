pub mod Options
pub mod Given
