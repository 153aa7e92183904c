-- Laws: what is proved of the definitions, a file for each subject.
pub mod Holds
pub mod View
pub mod Table
pub mod Chains
pub mod Operands
pub mod Objects
pub mod Mark
pub mod Rows
