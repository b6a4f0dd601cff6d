pub mod Community
pub mod IterationLines
pub mod Lines
pub mod Parts
pub mod Report
pub mod Setups
