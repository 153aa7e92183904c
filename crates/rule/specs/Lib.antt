-- The rule that a read table holds: the definitions, in the order to read them; then the laws.
pub mod Holds
pub mod View
pub mod Mark
pub mod Contract
pub mod Laws
