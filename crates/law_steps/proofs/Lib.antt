pub mod Making
pub mod Found
pub mod Reading
