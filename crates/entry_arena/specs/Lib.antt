pub mod State
pub mod Cells
pub mod Stages
pub mod Free
