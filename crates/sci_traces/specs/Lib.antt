pub mod PacketsAnswer
pub mod StateWords
pub mod Standing
pub mod ObstacleWords
pub mod TraceAnswer
pub mod ListsAnswer
pub mod Logged
pub mod JsonEvent
