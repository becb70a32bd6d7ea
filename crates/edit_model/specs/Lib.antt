pub mod EditTexts
pub mod EditWords
pub mod Edits
pub mod SmallEdits
