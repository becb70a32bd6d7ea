pub mod Lines
pub mod Snags
