pub mod Counted
pub mod Looked
pub mod Looks
pub mod Passed
pub mod Summed
