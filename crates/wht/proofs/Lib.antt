pub mod Accepted
pub mod Number
pub mod Size
pub mod Turned
