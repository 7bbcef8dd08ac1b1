pub mod Admitted
pub mod Backwards
pub mod Blocks
pub mod Word
