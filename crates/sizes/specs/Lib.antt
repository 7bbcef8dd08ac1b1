pub mod Shift
pub mod Size
