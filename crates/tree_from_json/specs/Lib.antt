pub mod Ends
pub mod Entries
pub mod KindRows
pub mod Told
