pub mod Simulated
pub mod Sailing
pub mod Turns
