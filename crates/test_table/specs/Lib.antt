pub mod Piles
pub mod Notes
pub mod Laws
