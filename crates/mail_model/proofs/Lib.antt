pub mod Entities
pub mod EnvelopeText
pub mod Lines
pub mod Parameters
