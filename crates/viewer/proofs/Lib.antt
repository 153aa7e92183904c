-- Laws for the proofs of the functions.
pub mod Tests
pub mod Integers
pub mod Seen
pub mod Walk
