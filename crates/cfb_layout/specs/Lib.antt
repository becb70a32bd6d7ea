pub mod Counts
pub mod Versions
