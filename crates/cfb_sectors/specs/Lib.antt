pub mod Seen
pub mod States
pub mod Stays
pub mod Took
pub mod Views
