pub mod Bodies
pub mod Listing
pub mod Lists
pub mod Paths
pub mod Wholes
