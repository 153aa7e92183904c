-- What an operation gives on handles.
pub mod Contract
