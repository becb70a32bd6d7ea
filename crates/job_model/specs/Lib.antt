pub mod Acceptance
pub mod Changes
pub mod Commands
pub mod ReasonNames
pub mod ReportTexts
pub mod SampleTexts
pub mod Signatures
pub mod Targets
