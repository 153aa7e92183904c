-- Laws: what is proved of the definitions, a file for each subject.
pub mod LongAreas
pub mod Stages
pub mod Tidied
