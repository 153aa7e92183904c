-- Laws of the entries.
pub mod Settling
pub mod Stopping
pub mod Running
pub mod Judging
pub mod Entries
pub mod Reading
pub mod TwoTexts
pub mod CheckedJudging
pub mod Viewing
