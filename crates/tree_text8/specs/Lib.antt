pub mod Ends
pub mod Meaning
pub mod Narrow
pub mod Singles
pub mod Walks
pub mod Whole
