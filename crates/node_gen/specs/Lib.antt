pub mod Script
pub mod Places
pub mod Replies
pub mod Falling
pub mod Summary
