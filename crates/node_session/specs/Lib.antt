pub mod HandedOn
pub mod Turns
pub mod Session
pub mod Answering
