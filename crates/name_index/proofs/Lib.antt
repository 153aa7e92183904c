pub mod Trie
pub mod Table
pub mod Bits
pub mod Steps
pub mod Whole
pub mod Found
pub mod Doubles
