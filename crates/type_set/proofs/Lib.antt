-- Laws for the proofs of the crate type_set.
pub mod Sets
