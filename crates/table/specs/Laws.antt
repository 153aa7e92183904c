-- Laws: what is proved of the definitions, a file for each subject. Main restates the theorems that matter most.
pub mod Denotes
pub mod Every
pub mod ReadForm
pub mod WasRead
pub mod Standing
pub mod Inside
pub mod Placed
pub mod After
pub mod Apart
