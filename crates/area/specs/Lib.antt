-- Areas of bytes: numbers of four bytes in them, and what a function writes.
pub mod Words
pub mod Contract
pub mod Laws
