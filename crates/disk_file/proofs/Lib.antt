pub mod Minded
pub mod Moving
pub mod Copied
pub mod Filling
pub mod Naming
pub mod Entries
pub mod Refusing
