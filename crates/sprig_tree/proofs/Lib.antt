pub mod Digests
pub mod Parted
pub mod Order
pub mod Found
pub mod Laws
pub mod Tallied
pub mod Examples
