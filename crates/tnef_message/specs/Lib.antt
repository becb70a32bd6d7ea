pub mod Contents
pub mod Drafts
pub mod Entries
pub mod HeldBytes
pub mod Interfaces
pub mod Roles
pub mod Sections
pub mod Streams
