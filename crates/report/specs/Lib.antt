pub mod Digits
pub mod Examples
pub mod Text
pub mod Disk
pub mod Alike
