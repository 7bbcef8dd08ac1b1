pub mod Accepted
pub mod Exact
pub mod Room
pub mod NoWrap
pub mod Scaled
pub mod Whole
