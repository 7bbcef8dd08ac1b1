pub mod Lanes
pub mod Shifts
