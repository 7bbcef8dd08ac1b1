pub mod Adst
pub mod Dct
pub mod Kernel
pub mod Kind
pub mod Mirror
