pub mod Examples
pub mod HexText
pub mod Steps
pub mod Places
pub mod Counting
pub mod Lines
