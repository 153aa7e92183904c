-- A file, read into a buffer.
pub mod Contract
