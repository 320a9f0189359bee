pub mod PageKind
pub mod PageText
pub mod PageAnswer
pub mod WithoutData
