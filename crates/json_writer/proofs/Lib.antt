pub mod Counted
pub mod Lists
pub mod Escapes
pub mod HexStrings
pub mod Decoding
pub mod WellFormed
pub mod PlainRuns
