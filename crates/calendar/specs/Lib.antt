-- The calendar's answers in the terms of the model, and the theorems in plain terms.
pub mod Contract
