pub mod Gathered
pub mod Joined
pub mod Known
mod Rest
pub mod Sides
pub mod Summed
pub mod Going
