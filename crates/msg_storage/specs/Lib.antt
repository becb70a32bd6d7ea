pub mod Beside
pub mod Levels
pub mod Numbered
pub mod Written
