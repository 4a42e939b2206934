pub mod Balanced
mod Existence
pub mod Queues
pub mod Renderings
pub mod Scripts
mod Settled
pub mod Sizes
pub mod Timetables
