-- Laws: what is proved of the definitions, a file for each subject. Main restates the theorems that matter most.
pub mod Cells
pub mod Numbers
pub mod Rows
pub mod Means
pub mod Made
