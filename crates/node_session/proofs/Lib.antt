pub mod Sending
pub mod Collecting
pub mod Running
pub mod Stopping
pub mod Taking
pub mod Ending
