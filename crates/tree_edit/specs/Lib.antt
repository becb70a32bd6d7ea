pub mod Changes
pub mod ChunkedLists
pub mod Opened
pub mod PropChanges
pub mod Meaning
