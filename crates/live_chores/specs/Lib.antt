pub mod Stations
pub mod Turns
pub mod Flushes
pub mod Expires
pub mod Defrags
pub mod Raids
