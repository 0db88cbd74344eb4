pub mod Room
pub mod Reading
pub mod Starts
pub mod GateLaws
pub mod KeptCopies
pub mod Scans
