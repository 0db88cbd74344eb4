pub mod Pairs
pub mod Known
pub mod Working
pub mod Counted
pub mod Acting
