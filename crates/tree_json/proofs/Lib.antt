pub mod Lists
pub mod Objects
pub mod Walks
pub mod Wholes
pub mod ReadBack
pub mod Utf8Texts
pub mod Clean
pub mod Bodies
