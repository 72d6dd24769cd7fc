pub mod Answers
pub mod Checks
pub mod Known
pub mod Units
pub mod Parts
pub mod Serves
pub mod Exchanges
pub mod Erasing
