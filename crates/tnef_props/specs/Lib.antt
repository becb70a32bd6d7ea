pub mod Meaning
pub mod ReadLists
pub mod Steps
pub mod Written
pub mod Named
pub mod Scans
