pub mod Raids
pub mod Marks
pub mod Scans
pub mod Ends
pub mod Turns
