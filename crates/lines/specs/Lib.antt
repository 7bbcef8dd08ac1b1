pub mod Line
pub mod Pass
pub mod Room
pub mod Stage
pub mod Table
