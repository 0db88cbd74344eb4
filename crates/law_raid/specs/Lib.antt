pub mod Exact
pub mod Told
