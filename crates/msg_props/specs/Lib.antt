pub mod Elements
pub mod Entries
pub mod Heads
pub mod Items
pub mod Scans
pub mod Sections
pub mod Tagged
