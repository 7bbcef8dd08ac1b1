pub mod Accepted
pub mod Abreast
pub mod Stages
pub mod Turned
pub mod Unshifted
pub mod Examples
