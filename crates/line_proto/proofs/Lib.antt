pub mod Examples
pub mod Falling
pub mod Feeding
pub mod Words
pub mod Spelling
pub mod Cutting
pub mod Printing
