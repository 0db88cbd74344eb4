pub mod Fronts
pub mod Latest
pub mod Places
