pub mod Guarded
pub mod Facts
pub mod Reaching
pub mod Asking
