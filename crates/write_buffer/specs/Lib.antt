pub mod Phases
pub mod Buffers
