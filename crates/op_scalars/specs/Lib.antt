-- Operations on scalars.
pub mod Contract
pub mod Inner
