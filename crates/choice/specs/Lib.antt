pub mod Choice
pub mod Examples
