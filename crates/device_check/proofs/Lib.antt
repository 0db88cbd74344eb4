pub mod Latest
pub mod Counted
