-- The shape check: rows and marks, what it promises, what its private functions do, and the laws of what passes it.
pub mod Rows
pub mod Contract
pub mod Inner
pub mod Laws
