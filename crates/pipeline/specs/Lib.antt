-- What the texts of an entry come to before evaluation: the definitions, in the order to read them; then the laws.
pub mod Areas
pub mod Stage
pub mod Texts
pub mod Contract
pub mod Inner
pub mod Laws
