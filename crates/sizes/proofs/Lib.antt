pub mod Answer
pub mod Shift
pub mod Side
