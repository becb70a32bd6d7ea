pub mod Keys
pub mod Ranges
pub mod View
pub mod Values
