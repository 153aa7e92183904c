-- The theorems: Main and the demands restate what matters most, Laws prove all.
pub mod Main
pub mod Demand2
pub mod Demand3
pub mod Laws
