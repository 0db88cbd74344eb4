pub mod Fresh
pub mod Flushing
pub mod Looking
pub mod Raiding
