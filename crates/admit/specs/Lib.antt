-- The limits of the program, what it prints, what 01 says of it, and what its functions do.
pub mod Limits
pub mod Printed
pub mod Main
pub mod Inner
