-- Laws for the proofs of paths.
pub mod Digits
pub mod Whole
pub mod Rows
pub mod Denoted
pub mod Walk
