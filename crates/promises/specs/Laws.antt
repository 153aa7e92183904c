-- Laws: the proofs of the promises, a file for each subject.
pub mod Bits
pub mod Entries
pub mod Lengths
pub mod Written
pub mod Checked
pub mod Named
pub mod Replaced
pub mod Rows
pub mod Viewed
