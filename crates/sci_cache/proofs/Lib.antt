pub mod KindSets
pub mod LineSets
pub mod Index
