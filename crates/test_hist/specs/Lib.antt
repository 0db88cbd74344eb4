pub mod Finds
pub mod Steps
