mod Examples
pub mod Flat
pub mod Naming
pub mod Parts
pub mod Phrasing
pub mod Spelling
pub mod Stacked
pub mod Tables
pub mod Telling
pub mod TokenSteps
pub mod Whole
