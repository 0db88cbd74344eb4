pub mod Found
pub mod Turns
pub mod Books
pub mod Fields
pub mod Raids
