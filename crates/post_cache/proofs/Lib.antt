pub mod Kept
pub mod Slots
pub mod Laws
pub mod Examples
