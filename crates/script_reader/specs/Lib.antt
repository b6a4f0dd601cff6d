pub mod Counts
pub mod Named
pub mod Script
pub mod Validity
