mod BehindNames
pub mod FileSizes
pub mod Going
pub mod HeaderList
pub mod Least
pub mod Levels
pub mod Measures
pub mod NameBytes
pub mod Numbered
pub mod PlanSizes
pub mod Rooms
pub mod RunWords
pub mod Shared
pub mod Tables
pub mod Joins
