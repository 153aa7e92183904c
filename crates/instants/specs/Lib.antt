-- What the private functions of this crate are about, and the theorems about shifts by months and years.
pub mod Inner
