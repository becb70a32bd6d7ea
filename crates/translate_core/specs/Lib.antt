pub mod Ends
pub mod Inputs
pub mod Jobs
pub mod Trips
