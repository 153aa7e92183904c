-- Laws for the proofs of the crate type_check.
pub mod Paths
pub mod Operations
pub mod Operand
pub mod Rows
pub mod All
pub mod Three
pub mod Views
