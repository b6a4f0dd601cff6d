pub mod Parts
pub mod Heard
pub mod Calm
pub mod Ordered
