pub mod Lists
pub mod Rows
pub mod Leasts
pub mod Books
pub mod Marks
pub mod Standing
pub mod Examples
