pub mod Become
pub mod Pages
pub mod Texts
pub mod Unicode
pub mod Unmapped
