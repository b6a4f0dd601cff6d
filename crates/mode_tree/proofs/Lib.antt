mod Examples
pub mod Scanned
pub mod Walking
pub mod Worded
