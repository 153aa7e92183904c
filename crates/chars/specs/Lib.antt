-- The contract of `chars`, and what the private functions promise.
pub mod Contract
pub mod Inner
