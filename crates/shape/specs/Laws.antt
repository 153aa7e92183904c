-- Laws: what is proved of the definitions, a file for each subject.
pub mod Marks
pub mod Values
pub mod Holds
