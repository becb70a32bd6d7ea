pub mod Contents
pub mod Grown
pub mod Listed
pub mod Places
pub mod Sorting
pub mod Trees
