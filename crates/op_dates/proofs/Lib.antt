-- Laws over plain values that the proofs cite.
pub mod Amounts
pub mod Instants
