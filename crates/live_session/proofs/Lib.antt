pub mod Making
pub mod Lines
pub mod Ends
pub mod Kept
