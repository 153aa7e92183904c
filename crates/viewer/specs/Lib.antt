-- The viewer: the definitions, in the order to read them; then the theorems.
pub mod Row
pub mod Form
pub mod View
pub mod Answer
pub mod Shows
pub mod Inside
pub mod Contract
pub mod Main
pub mod Laws
