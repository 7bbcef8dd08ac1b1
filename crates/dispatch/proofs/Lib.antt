pub mod Condition3
pub mod Examples
