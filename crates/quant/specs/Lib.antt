pub mod Examples
pub mod Finite
pub mod Float
pub mod Level
pub mod Place
pub mod Scan
pub mod Settings
pub mod Step
