pub mod Layout
pub mod Readings
pub mod Copies
pub mod Refusals
