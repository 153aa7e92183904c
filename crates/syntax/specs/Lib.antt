-- From bytes to values: the grammar, reading, the read form. The definitions, in the order to read them; then the theorems.
pub mod Tokens
pub mod Utf8
pub mod Domain
pub mod Grammar
pub mod Abnf
pub mod Read
pub mod Faults
pub mod WellFormed
pub mod Locate
pub mod Layout
pub mod Entry
pub mod Output
pub mod ReadsBack
