pub mod Bits
pub mod Links
pub mod Sets
