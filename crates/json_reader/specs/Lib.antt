-- What `read` promises, and what the private functions do.
pub mod Contract
pub mod Index
pub mod Inner
