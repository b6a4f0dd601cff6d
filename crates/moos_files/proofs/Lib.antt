pub mod Files
pub mod Gathering
mod Examples
