-- The value at a path, by handles.
pub mod Contract
pub mod Inner
