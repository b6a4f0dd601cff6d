pub mod Behaviors
pub mod Blocks
pub mod Places
