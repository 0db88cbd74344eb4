pub mod Items
pub mod Counts
pub mod Dropping
pub mod Marking
pub mod Spares
pub mod Exact
