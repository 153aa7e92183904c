-- Rows of a read table: the definitions, in the order to read them; then the theorems.
pub mod Row
pub mod Node
pub mod Strings
pub mod Denotes
pub mod WasRead
pub mod Placed
pub mod Part
pub mod Contract
pub mod Main
pub mod Laws
