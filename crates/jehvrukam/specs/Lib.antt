-- The entries: what each comes back with, and the last bytes of each lent area, for every outcome.
pub mod Entry
pub mod Evaluate
pub mod Check
pub mod Fits
pub mod EvaluateChecked
pub mod View
pub mod Contract
pub mod Inner
