-- The stack of operands, the cells that change, how an evaluation ends, what the operations on the stack do; then the laws.
pub mod Stack
pub mod Cells
pub mod Ended
pub mod Contract
pub mod Inner
pub mod Laws
