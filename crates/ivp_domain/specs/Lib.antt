pub mod AxisNames
pub mod Axes
pub mod Boxes
pub mod Domains
pub mod Filled
