-- Laws over plain values that the proofs cite.
pub mod Shapes
pub mod Times
