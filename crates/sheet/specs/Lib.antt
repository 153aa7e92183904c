-- A sheet where it was read.
pub mod ByRows
pub mod Contract
pub mod Inner
