pub mod Kept
pub mod Changes
pub mod Gates
pub mod Held
pub mod Scans
pub mod Courses
