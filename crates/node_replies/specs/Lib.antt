pub mod Outcomes
pub mod Through
pub mod Counts
pub mod Digests
