pub mod Every
pub mod EachLane
pub mod Chunks
pub mod Spared
