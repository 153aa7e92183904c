-- Laws: what is proved of the definitions, a file for each subject.
pub mod Fragment
pub mod Names
