pub mod ByteSums
pub mod Drafts
pub mod Gathered
pub mod Maps
pub mod Orders
pub mod Read
pub mod Tables
