pub mod Arranged
pub mod Doubles
pub mod Ranks
mod Spots
pub mod Arriving
mod ObjectPlaces
