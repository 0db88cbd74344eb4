pub mod Calling
pub mod Counting
pub mod Doing
pub mod Serving
