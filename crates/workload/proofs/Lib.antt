pub mod Ahead
pub mod Bounds
pub mod DutyTicks
pub mod IdleTicks
pub mod Minimum
pub mod RowCalls
pub mod RowSlacks
