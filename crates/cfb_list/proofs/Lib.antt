pub mod Added
pub mod BuiltTrees
pub mod Divided
pub mod FilePlaces
mod Grown
pub mod NumberedOrder
pub mod Rows
pub mod SortedFiles
pub mod SortedSums
pub mod Soundness
pub mod Stable
