pub mod Pairs
pub mod Lowered
pub mod Released
pub mod Order
pub mod Laws
