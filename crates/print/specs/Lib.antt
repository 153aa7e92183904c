-- What the functions promise, what the private ones do, and laws of written texts.
pub mod Contract
pub mod Inner
pub mod Laws
