pub mod Attachments
pub mod Carriers
pub mod CheckTexts
pub mod Elements
pub mod Halves
pub mod Sizes
pub mod StoreTotals
