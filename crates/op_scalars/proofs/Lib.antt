-- Laws for the proofs of operations on scalars.
pub mod Raised
pub mod Answers
pub mod Operands
pub mod Truths
pub mod Scalars
pub mod Sums
pub mod Comparisons
