-- The theorems: Main restates what matters most, Laws prove all. Then lemmas for the proofs of the functions.
pub mod Main
pub mod Laws
pub mod Packing
