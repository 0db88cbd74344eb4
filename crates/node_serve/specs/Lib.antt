pub mod Calling
pub mod Closing
pub mod Manning
pub mod Serving
