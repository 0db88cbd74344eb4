pub mod Fits
pub mod Sparing
pub mod Tests
pub mod Becoming
pub mod Parts
pub mod Making
pub mod Starting
pub mod Resuming
