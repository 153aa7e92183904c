-- Sets of types by value, and the laws.
pub mod Contract
pub mod Laws
