pub mod Order
pub mod Places
mod Rotations
mod Slots
