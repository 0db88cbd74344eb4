pub mod Sizes
pub mod Reading
pub mod Appending
pub mod Examples
