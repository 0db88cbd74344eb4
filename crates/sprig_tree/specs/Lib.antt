pub mod Entries
pub mod State
pub mod Search
pub mod Tallies
