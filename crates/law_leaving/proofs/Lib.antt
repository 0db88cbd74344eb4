pub mod Firsts
pub mod Steps
pub mod Events
