pub mod Dct
pub mod Mirror
pub mod MirrorRead
pub mod RowSize
