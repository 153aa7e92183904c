-- Laws for the proofs of the crate eval.
pub mod Bounds
pub mod Frames
pub mod Arguments
pub mod Rows
pub mod Literals
pub mod Taken
pub mod Begun
pub mod Steps
pub mod Whole
