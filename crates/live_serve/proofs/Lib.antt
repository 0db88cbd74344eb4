pub mod Pairing
pub mod Coming
pub mod Going
pub mod Entering
pub mod Linking
pub mod Crewing
pub mod Leaving
