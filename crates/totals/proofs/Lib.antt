pub mod Added
pub mod Fits
pub mod Refusals
