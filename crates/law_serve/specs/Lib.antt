pub mod Devices
pub mod Promises
