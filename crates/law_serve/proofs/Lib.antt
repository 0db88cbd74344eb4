pub mod Devices
pub mod Naming
pub mod Promises
pub mod Whole
