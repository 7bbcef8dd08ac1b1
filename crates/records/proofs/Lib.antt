pub mod Back
pub mod Both
pub mod Examples
pub mod Held
pub mod Report
