pub mod Accepted
pub mod Every
pub mod Examples
