pub mod Chores
pub mod Crews
pub mod Dealing
