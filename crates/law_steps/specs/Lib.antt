pub mod Sprigs
pub mod Standing
pub mod Events
