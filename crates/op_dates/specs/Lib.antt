-- `plusTime` and `dccDateOfBirth`.
pub mod Inner
pub mod Contract
