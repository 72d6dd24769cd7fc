pub mod DeviceFacts
pub mod FlatFacts
pub mod JoinedFacts
pub mod SkewFacts
