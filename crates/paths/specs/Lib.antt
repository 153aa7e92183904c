-- The value at a path, by rows; then the laws.
pub mod Contract
pub mod Inner
pub mod Laws
