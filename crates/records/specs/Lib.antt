pub mod Both
pub mod Examples
pub mod Report
