-- The day of a date, and that on which a month begins; then what an answer tells.
pub mod Contract
pub mod Laws
