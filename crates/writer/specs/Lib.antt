-- What `write` promises, what the private functions do, and what the promise says of values.
pub mod Contract
pub mod Inner
pub mod Main
