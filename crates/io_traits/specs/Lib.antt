pub mod Source
pub mod Sink
pub mod Clock
pub mod Door
pub mod Streams
pub mod Memory
