mod BitLaws
pub mod Counts
mod Filled
mod LinkLaws
