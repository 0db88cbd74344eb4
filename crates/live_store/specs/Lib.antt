pub mod Pairs
pub mod Known
pub mod Works
pub mod Upkeep
pub mod Stores
