pub mod Least
pub mod Tallied
pub mod Opened
pub mod Audited
