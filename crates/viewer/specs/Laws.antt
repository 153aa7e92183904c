-- Laws: what is proved of the definitions. Main restates the theorems that matter most.
pub mod Told
pub mod ReadForm
