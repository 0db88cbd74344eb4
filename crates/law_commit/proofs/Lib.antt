pub mod Flushing
pub mod Unwriting
pub mod Committing
pub mod Tops
