-- Laws for the proofs of sheet.
pub mod Nodes
pub mod Rows
pub mod Contents
pub mod Paths
pub mod Checking
pub mod Entries
pub mod Listing
pub mod Belonging
pub mod Fitting
