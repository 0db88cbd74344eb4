pub mod Laws
pub mod Numbers
pub mod Examples
pub mod Refused
pub mod Blocks
pub mod InRow
