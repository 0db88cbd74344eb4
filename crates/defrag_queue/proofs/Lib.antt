pub mod Marks
pub mod Rings
pub mod Laws
pub mod Refreshed
pub mod Examples
