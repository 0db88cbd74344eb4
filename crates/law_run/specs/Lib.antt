pub mod Concluding
pub mod Shown
pub mod Promises
pub mod Behind
