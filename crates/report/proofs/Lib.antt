pub mod Ascii
pub mod Digits
pub mod Pieces
pub mod Parts
pub mod AlikeLaws
