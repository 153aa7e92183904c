-- Where a fragment of a text ends; names in a list; what the private functions of this crate do; then the laws.
pub mod Fragment
pub mod Names
pub mod Contract
pub mod Inner
pub mod Laws
