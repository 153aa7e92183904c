-- Laws: what is proved of the definitions, a file for each subject.
pub mod Stack
pub mod Cells
pub mod Ends
