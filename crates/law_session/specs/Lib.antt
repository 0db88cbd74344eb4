pub mod Chain
pub mod Whole
