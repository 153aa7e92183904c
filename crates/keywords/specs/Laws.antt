-- Laws: what is proved of the definitions, a file for each subject.
pub mod Keyed
pub mod Keyword
pub mod Stands
