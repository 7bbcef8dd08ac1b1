pub mod Filling
pub mod Lent
pub mod Places
