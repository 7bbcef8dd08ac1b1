pub mod Pieces
pub mod Format
pub mod Exact
pub mod Examples
