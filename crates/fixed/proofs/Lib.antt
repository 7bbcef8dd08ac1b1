pub mod Within
pub mod Round
pub mod Scale
pub mod Shifted
