-- The contracts of the tokens' functions, what the private ones promise, and the laws that callers cite.
pub mod Contract
pub mod Inner
pub mod Laws
