pub mod Room
pub mod Tidy
