-- Laws: what is proved of the definitions, a file for each subject. Main restates the theorems that matter most.
pub mod Answer
pub mod Instant
