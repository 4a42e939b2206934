pub mod Faults
pub mod Forms
pub mod Grammar
pub mod Items
pub mod Laws
pub mod Lines
pub mod Numbers
pub mod Sayings
