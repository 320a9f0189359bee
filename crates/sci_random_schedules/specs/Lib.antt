pub mod Walking
pub mod RandomAnswer
