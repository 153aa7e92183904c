-- Laws: what is proved of the definitions, a file for each subject.
pub mod Slots
pub mod Entries
pub mod Find
pub mod Items
pub mod Arrays
