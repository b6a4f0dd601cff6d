pub mod Both
pub mod Examples
pub mod Nexts
pub mod Verdicts
