-- Laws over plain values that the proofs cite.
pub mod Copy
pub mod Digits
pub mod Escapes
pub mod Runs
pub mod Quoted
