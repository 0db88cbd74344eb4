pub mod Crew
pub mod Devices
pub mod Naming
pub mod Serving
