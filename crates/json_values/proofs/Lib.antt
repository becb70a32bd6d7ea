pub mod Converted
pub mod Counted
pub mod Keys
pub mod Ranged
pub mod Values
pub mod Views
