pub mod Batch
pub mod Finite
pub mod Opening
pub mod Signed
