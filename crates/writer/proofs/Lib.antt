-- Laws for the proofs of the writer.
pub mod Pieces
pub mod Tokens
pub mod Parts
pub mod Values
pub mod Loop
pub mod Whole
