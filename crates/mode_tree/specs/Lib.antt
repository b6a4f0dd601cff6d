pub mod Modes
pub mod Paths
pub mod Scans
pub mod Trees
