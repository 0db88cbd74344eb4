mod Keeping
mod Waiting
mod Quiet
mod Leaving
mod Emptying
mod Sealed
mod Flushed
pub mod Uses
mod Readying
mod Moving
mod Coming
mod Moves
pub mod Resting
mod Draining
mod Vacated
pub mod Finding
pub mod Gaining
mod Worked
mod InRow
