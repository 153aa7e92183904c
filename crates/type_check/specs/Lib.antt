-- The kind check of a rule and a sheet where they were read.
pub mod ByRows
pub mod Contract
pub mod Inner
