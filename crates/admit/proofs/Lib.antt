pub mod Lines
pub mod Entry
pub mod Whole
