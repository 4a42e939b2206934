pub mod Admission
pub mod DivCeil
pub mod Least
pub mod Limits
