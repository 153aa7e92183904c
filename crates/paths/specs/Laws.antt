-- Laws: what is proved of the definitions, a file for each subject.
pub mod Index
pub mod Loops
pub mod Fragments
