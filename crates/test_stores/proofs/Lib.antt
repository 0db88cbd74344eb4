pub mod Making
pub mod Keeping
pub mod Giving
