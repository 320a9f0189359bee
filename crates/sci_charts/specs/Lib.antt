pub mod Elements
pub mod Rows
pub mod Drawing
pub mod ChartAnswer
