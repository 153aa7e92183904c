-- The promises from bytes, about the entries' definitions. First the terms, then the pages of statements, each with its proofs under Laws.
pub mod Words
pub mod Calls
pub mod Lengths
pub mod Replacement
pub mod Rows
pub mod Viewed
pub mod Laws
pub mod Demand1
pub mod Demand2
pub mod Demand3
pub mod EvaluateChecked
pub mod Starred
pub mod Viewer
