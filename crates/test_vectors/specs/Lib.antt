-- What the program counts, and what its functions do.
pub mod Cases
pub mod Inner
