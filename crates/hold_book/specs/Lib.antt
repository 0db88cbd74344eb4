pub mod Holds
pub mod Counts
pub mod Pairs
