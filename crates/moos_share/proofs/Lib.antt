mod Carries
mod CarryExamples
mod Examples
mod Following
mod Joined
mod Kept
mod LongNames
mod Names
pub mod NextFetches
