-- Laws over plain values that the proofs cite.
pub mod Tables
pub mod Steps
pub mod Read
pub mod Loops
pub mod Utf8
pub mod Pieces
pub mod Halves
pub mod Promise
