pub mod Turned
pub mod Wht
