-- One line: its list, who has the authority, and what its contents are.
-- A list is members that come, one that leads, and members that follow (`Chains`, `Led`); each row of the tables but those of
-- served requests leaves where a member stands (`Standings`, `Heads`). Requests at the home (`Shapes`) and at a cache
-- (`CacheShapes`), and operations (`PerformShapes`), keep a line shaped, so every step and every run does (`ShapeSteps`,
-- `ShapeServes`, `ShapeRuns`). The six clauses are read off the list (`ShapeClauses`, `StaleFronts`), and so is what a machine
-- shows of it (`Walking`, `Shared`, `LastContents`). `Views` is one line as all nodes have it.
pub mod LastContents
pub mod Chains
pub mod Heads
pub mod Views
pub mod Standings
pub mod Led
pub mod Shapes
pub mod CacheShapes
pub mod PerformShapes
pub mod ShapeSteps
pub mod ShapeServes
pub mod ShapeRuns
pub mod StaleFronts
pub mod ShapeClauses
pub mod Walking
pub mod Shared
