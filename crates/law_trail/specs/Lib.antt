pub mod Trail
pub mod Needs
pub mod Numbers
pub mod Within
