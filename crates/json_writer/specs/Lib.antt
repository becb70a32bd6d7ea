pub mod Counted
pub mod Units
pub mod Decoded
pub mod Plain
