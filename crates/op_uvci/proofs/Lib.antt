-- Laws over plain values that the proofs cite.
pub mod Fragments
pub mod Answers
