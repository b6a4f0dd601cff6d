mod Examples
pub mod Bearings
pub mod Farthest
pub mod Quarters
pub mod Roots
pub mod Rounds
