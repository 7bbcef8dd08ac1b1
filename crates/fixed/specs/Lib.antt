pub mod Fixed
pub mod Limit
