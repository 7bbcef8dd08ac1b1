pub mod Condition3
pub mod Examples
pub mod InList
pub mod OnCopies
pub mod Shown
