pub mod Existence
pub mod Lines
pub mod Renderings
pub mod Scripts
pub mod Sizes
pub mod Timetables
pub mod Transcripts
