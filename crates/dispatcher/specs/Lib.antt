pub mod Left
pub mod Scripts
pub mod Views
