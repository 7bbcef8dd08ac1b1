pub mod Preview
pub mod OnCopies
pub mod Calls
pub mod Condition3
pub mod Examples
