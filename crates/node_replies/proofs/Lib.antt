pub mod Through
pub mod Counting
