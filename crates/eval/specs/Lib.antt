-- What `evaluate` and `value` promise, and the evaluator's private contracts.
pub mod Evaluate
pub mod Contract
pub mod Inner
