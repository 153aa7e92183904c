-- Laws for the proofs of the functions.
pub mod Parts
pub mod Walk
