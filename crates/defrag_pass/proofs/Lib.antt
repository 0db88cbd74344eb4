pub mod Asking
pub mod Kept
pub mod Moved
pub mod Telling
pub mod Choosing
