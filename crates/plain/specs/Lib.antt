pub mod Arrays
pub mod Members
