pub mod Kept
pub mod KeptTrees
pub mod Made
pub mod WordsFit
