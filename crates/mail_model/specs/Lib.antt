pub mod Base64
pub mod Entities
pub mod Envelope
pub mod EnvelopeText
pub mod Lines
