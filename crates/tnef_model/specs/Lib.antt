pub mod Attributes
pub mod LegacyAttributes
pub mod Moments
pub mod TnefCanonical
pub mod TnefLists
pub mod TnefMessage
