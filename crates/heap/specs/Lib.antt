-- Values of evaluation by handle: the definitions, in the order to read them. The theorems are in proofs/: Main and Laws.
pub mod Handles
pub mod Cells
pub mod Strings
pub mod Parts
pub mod Unfold
pub mod Means
pub mod Blocks
pub mod Contract
