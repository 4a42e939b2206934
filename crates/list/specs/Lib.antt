pub mod Held
pub mod Order
