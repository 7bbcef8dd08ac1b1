pub mod Finite
pub mod Levels
pub mod Reported
pub mod Preview
pub mod Ticket
