-- Laws over plain values that the proofs cite.
pub mod Decisions
pub mod Words
pub mod Numerals
