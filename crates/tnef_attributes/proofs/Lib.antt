pub mod Stream
pub mod DayLemmas
pub mod Words
pub mod Rows
