-- Laws of the stages.
pub mod Reading
pub mod Checking
