-- The index of an object's names: the bits of a name, the trie over them, where it lies in a table, the contract of `enter`, what its
-- private functions promise, and the laws. And the index of an array's items.
pub mod Bits
pub mod Trie
pub mod Slots
pub mod Contract
pub mod Items
pub mod Table
pub mod Inner
pub mod Laws
