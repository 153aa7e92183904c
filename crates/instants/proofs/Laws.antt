-- Laws: what is proved of shifts. Main restates the theorems.
pub mod Shift
