pub mod Starting
pub mod Found
