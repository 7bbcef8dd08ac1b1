pub mod Bits
pub mod Examples
pub mod Listed
pub mod Number
pub mod Parse
pub mod Record
pub mod Sides
