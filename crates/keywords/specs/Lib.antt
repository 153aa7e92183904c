-- The names of operations and units, in the terms of the model; then the laws.
pub mod Contract
pub mod Laws
